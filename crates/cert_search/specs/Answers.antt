-- The answers of a search.
use Rattle.std.specs.Prelude.{◌≡◌, ◌≤◌, ℕ, List, length, Option, Some, IfSome, IsSome, Result, Ok, Err, option_map, slice_get}
use Rattle.std.specs.declared.alloc.Global.{Global}
use Rattle.refutation.specs.declared.certificate.Certificate.{Certificate}
use Rattle.refutation.specs.Common.{certificate_rule, Rule}
use Rattle.quorum_checker.specs.Refutes.{State, Refutes}
use Rattle.plan.specs.declared.fault.PlanFault.{PlanFault}
use Rattle.plan.specs.Common.{PlacedClaim}
use Rattle.cert_search.specs.Plain.{IsPlain}

-- the rule of a certificate, if there is one
abbrev pub rule_in : Option (Certificate Global) → Option Rule
rule_in = option_map certificate_rule

-- The answer to a claim: None, or a rule that refutes it. With a budget of at least 100 a plain claim has a rule.
pub record IsAnswer (budget : ℕ) (claim : State) (rule : Option Rule) : Type 0 where
  pub refutes : IfSome rule (λ r. Refutes r claim)
  pub plain : 100 ≤ budget → IsPlain claim → IsSome rule

-- each answer is one to the claim with its number
abbrev pub EachAnswers : ℕ → List PlacedClaim → List (Option Rule) → Type 0
EachAnswers budget claims rules = (i : ℕ) (c : PlacedClaim) (rule : Option Rule) → slice_get claims i ≡ Some c
    → slice_get rules i ≡ Some rule → IsAnswer budget c.claim rule

-- the answers to claims, in their order
pub record AreAnswers (budget : ℕ) (claims : List PlacedClaim) (rules : List (Option Rule)) : Type 0 where
  pub as_many : length rules ≡ length claims
  pub each : EachAnswers budget claims rules

-- the answers to the claims of a plan, if it has claims
abbrev pub AreAnswersOf : ℕ → Result (List PlacedClaim) PlanFault → List (Option Rule) → Type 0
AreAnswersOf budget (Ok claims) rules = AreAnswers budget claims rules
AreAnswersOf budget (Err fault) rules = ⊥
