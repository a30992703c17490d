use Rattle.std.proofs.Common.{◌≡◌, None, replicate}
use Rattle.commands.proofs.search.nothing.Given as goal

-- so many places so far
abbrev pub invariant-loop : goal.invariant-loop
invariant-loop l = l.certificates.items ≡ replicate l.counter None
