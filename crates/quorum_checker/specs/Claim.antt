-- The state in which the check of a claim begins.
use Rattle.quorum_expr.specs.Common.{formula_of}
use Rattle.quorum_checker.specs.declared.claim.Claim.{Claim}
use Rattle.quorum_checker.specs.Refutes.{State, claim_state}

-- the state of a claim: its two expressions, and the members that the left set doesn't have
abbrev pub first_state : {A : Type 0} → Claim A → State
first_state claim = claim_state (formula_of claim.left) (formula_of claim.right) claim.clear
