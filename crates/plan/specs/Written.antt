-- Writing a plan with other certificates.
use Rattle.std.specs.Prelude.{◌≡◌, ◌≢◌, ℕ, false, List, length, Option, Result, Ok, Err, IsOkAnd, Vec}
use Rattle.std.specs.declared.alloc.Global.{Global}
use Rattle.serde_json.specs.Data.{Data}
use Rattle.serde_json.specs.Written.{has_float, compact_text}
use Rattle.volume_model.specs.declared.fault.Fault.TheVariants.{NoMemory}
use Rattle.refutation.specs.Common.{Rule}
use Rattle.plan.specs.declared.fault.PlanFault.{PlanFault}
use Rattle.plan.specs.declared.fault.PlanFault.TheVariants.{Text}
use Rattle.plan.specs.PlanData.{PlanData}
use Rattle.plan.specs.PlanText.{◌>=>◌, in_text, json_of, plan_in, plan_of}
use Rattle.plan.specs.PlanClaims.{PlacedClaim, claims_in}
use Rattle.plan.specs.WithCertificates.{with_certificates}

-- the plan of a text of any size
abbrev pub spelt : List ℕ → Result PlanData PlanFault
spelt text = in_text (json_of text) >=> plan_in

-- The plan of a text with these certificates for its claims; else the first fault of the text, then that of its claims.
unfoldable pub rewritten : List ℕ → List (Option Rule) → Result PlanData PlanFault
rewritten text certificates = plan_of text >=> λ plan. claims_in plan >=> λ claims. Ok
    (with_certificates plan certificates)

-- there is a place for each claim, if the text's plan has claims
abbrev pub HasPlaces : List ℕ → ℕ → Type 0
HasPlaces text places = (plan : PlanData) (claims : List PlacedClaim) → plan_of text ≡ Ok plan → claims_in plan
    ≡ Ok claims → places ≡ length claims

-- The bytes are a text of the plan that is defined, or the result is its fault, unless memory ran out.
abbrev pub Writes : Result (Vec ℕ Global) PlanFault → Result PlanData PlanFault → Type 0
Writes (Ok bytes) defined = IsOkAnd defined (λ plan. spelt bytes.items ≡ Ok plan)
Writes (Err fault) defined = fault ≢ Text NoMemory → defined ≡ Err fault

-- the bytes are the compact text of their value, if it has no float
abbrev pub IsCompact : List ℕ → Type 0
IsCompact bytes = (d : Data) × (json_of bytes ≡ Ok d) × (has_float d ≡ false → bytes ≡ compact_text d)
