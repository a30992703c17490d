-- The answers about claims.
use Rattle.refutation.specs.Common.{Rule}
use Rattle.quorum_checker.specs.Refutes.{Refutes, State}
use Rattle.explain.specs.declared.claims.ClaimAnswer.{ClaimAnswer}
use Rattle.explain.specs.declared.claims.ClaimAnswer.TheVariants.{Certified, Uncertified, Fails, Unknown}

-- a rule refutes the claim
abbrev pub IsRefuted : State → Type 0
IsRefuted state = (rule : Rule) × Refutes rule state

-- If the answer is that the claim is certified or uncertified, a rule refutes it, so it is true; if the answer is that
-- it fails, no rule does.
abbrev pub IsClaimAnswer : State → ClaimAnswer → Type 0
IsClaimAnswer state Certified = IsRefuted state
IsClaimAnswer state Uncertified = IsRefuted state
IsClaimAnswer state (Fails witness) = IsRefuted state → ⊥
IsClaimAnswer state Unknown = Unit {0}
