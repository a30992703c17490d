use Rattle.std.proofs.Common.{◌≡◌, ◌-◌, drop}
use Rattle.cert_search.specs.Lengths.{numbers_length}
use Rattle.cert_search.proofs.lengths.behind_numbers.Given as goal

-- the room behind those before, less the lengths of those that are left
abbrev pub invariant-loop-number : goal.invariant-loop-number
invariant-loop-number l = l.left - numbers_length (drop l.number-index l.numbers) ≡ l.room - numbers_length l.numbers
