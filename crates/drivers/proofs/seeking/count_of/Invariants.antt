use Rattle.std.proofs.Common.{◌≡◌, ◌+◌, count_by, eqb, length}
use Rattle.drivers.proofs.seeking.count_of.Given as goal

abbrev pub decreases-loop-rest : goal.decreases-loop-rest
decreases-loop-rest l = length l.rest

abbrev pub invariant-loop-rest : goal.invariant-loop-rest
invariant-loop-rest l = l.count + count_by (λ b. eqb b l.byte) l.rest ≡ count_by (λ b. eqb b l.byte) l.text
