-- The tape of a text, and the claims of its plan.
use Rattle.std.specs.Prelude.{◌≡◌, ℕ, List, length, Result, Ok, IsOkAnd, IsSome, true}
use Rattle.std.specs.Str.{IsUtf8}
use Rattle.json.specs.Token.{Token}
use Rattle.json.specs.Lex.{tokens}
use Rattle.json.specs.Json.{document}
use Rattle.quorum_expr.specs.Common.{passes}
use Rattle.plan.specs.declared.fault.PlanFault.{PlanFault}
use Rattle.plan.specs.PlanText.{IsWithinSize, plan_of}
use Rattle.plan.specs.PlanData.{PlanData}
use Rattle.plan.specs.PlanClaims.{PlacedClaim, claims_in}
use Rattle.plan.specs.Written.{spelt}

-- The tape has the tokens of a text of at most 16,777,216 bytes, which is JSON that serde_json reads.
pub record IsTapeOf (text : List ℕ) (tape : List Token) : Type 0 where
  pub is : tape ≡ tokens text
  pub json : IsSome (document text)
  pub utf8 : IsUtf8 text
  pub within : IsWithinSize text
  pub readable : passes 127 tape ≡ true

-- The text is that of a plan that has claims, and this is their number.
pub record HasClaims (text : List ℕ) (count : ℕ) : Type 0 where
  pub plan : PlanData
  pub is : plan_of text ≡ Ok plan
  pub claims : List PlacedClaim
  pub listed : claims_in plan ≡ Ok claims
  pub places : count ≡ length claims

-- The bytes are a text of the plan that is defined.
abbrev pub Spells : Result PlanData PlanFault → List ℕ → Type 0
Spells defined bytes = IsOkAnd defined (λ plan. spelt bytes ≡ Ok plan)
