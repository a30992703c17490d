use Rattle.std.proofs.Common.{◌≡◌, ℕ, drop, ◌||◌}
use Rattle.std.specs.FinSet.{contains}
use Rattle.volume_c.specs.Advances.{among}
use Rattle.volume_c.proofs.advance_calls.set_of.Given as goal

abbrev pub invariant-loop-member : goal.invariant-loop-member
invariant-loop-member l = (x : ℕ) → (contains l.found x || among (drop l.member-index l.members) x) ≡ among l.members x
