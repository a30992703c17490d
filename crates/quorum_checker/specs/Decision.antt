-- The meaning of a decision about a claim.
use Rattle.std.specs.Prelude.{◌≡◌, ◌⊎◌, ℕ, true, false, length}
use Rattle.std.specs.Ordering.{nat_cmp}
use Rattle.std.specs.FinSet.{FinSet, contains, difference, intersection}
use Rattle.volume_model.specs.Common.{listed, sat}
use Rattle.quorum_expr.specs.Common.{formula_of}
use Rattle.refutation.specs.Common.{Rule, is_certificate, rule_of, certificate_rule}
use Rattle.quorum_checker.specs.declared.claim.Claim.{Claim}
use Rattle.quorum_checker.specs.Claim.{first_state}
use Rattle.quorum_checker.specs.Refutes.{Refutes}
use Rattle.quorum_checker.specs.Witness.{IsWitnessOf}
use Rattle.quorum_checker.specs.Naming.{named}
use Rattle.quorum_checker.specs.Cases.{Cases, refuted, apart, present}
use Rattle.quorum_checker.specs.declared.cases.Ended.{Ended}
use Rattle.quorum_checker.specs.declared.cases.Ended.TheVariants.{Refuted, Apart}
use Rattle.quorum_checker.specs.declared.deciding.Decision.{Decision}
use Rattle.quorum_checker.specs.declared.deciding.Decision.TheVariants.{Holds, Fails, Unknown}

-- the view of the code's `Ended`
abbrev pub cases_of : Ended → Cases
cases_of (Refuted tree) = refuted (rule_of tree)
cases_of (Apart a b) = apart a b

-- the members that both sides of a claim name and that the first set may have
abbrev pub common : {A : Type 0} → Claim A → FinSet nat_cmp
common claim = intersection (difference (named (formula_of claim.left)) claim.clear) (named (formula_of claim.right))

-- the number of common members
abbrev pub breadth : {A : Type 0} → Claim A → ℕ
breadth claim = length (listed (common claim))

-- A certificate refutes the claim, or a witness shows that it fails.
abbrev pub IsDecision : {A : Type 0} → Claim A → Decision → Type 0
IsDecision claim (Holds certificate) = Refutes (certificate_rule certificate) (first_state claim)
IsDecision claim (Fails witness) = IsWitnessOf claim witness
IsDecision claim Unknown = Unit {0}

-- the decision is one of these two
abbrev pub IsKnown : Decision → Type 0
IsKnown (Holds certificate) = Unit {0}
IsKnown (Fails witness) = Unit {0}
IsKnown Unknown = ⊥

-- a certificate of this rule, or Unknown if the rule passes a limit
abbrev pub IsCertifying : Rule → Decision → Type 0
IsCertifying rule (Holds certificate) = certificate_rule certificate ≡ rule
IsCertifying rule (Fails witness) = ⊥
IsCertifying rule Unknown = is_certificate rule ≡ false

-- Both sides of a claim are satisfied without their absent members, and each common member is absent from one side.
pub record AreApart {A : Type 0} (claim : Claim A) (a b : FinSet nat_cmp) : Type 0 where
  pub clear : (x : ℕ) → contains claim.clear x ≡ true → contains a x ≡ true
  pub satisfies_left : sat (formula_of claim.left) (present a) ≡ true
  pub satisfies_right : sat (formula_of claim.right) (present b) ≡ true
  pub covered : (x : ℕ) → contains (common claim) x ≡ true → (contains a x ≡ true) ⊎ (contains b x ≡ true)
