-- Writing a plan with other certificates, from text to text.
use Rattle.std.proofs.Common.{◌≡◌, ℕ, ◌≤◌, ◌∙◌, List, refl, ap, sym, subst, arith, Option, Some, Ok, Err, Bool, false, IsOkAnd}
use Rattle.std.specs.Str.{IsUtf8}
use Rattle.serde_json.specs.Data.{Data, object, depth}
use Rattle.serde_json.specs.Read.{read, max_depth}
use Rattle.serde_json.specs.Written.{has_float, compact_text}
use Rattle.serde_json.proofs.Nesting.{depth-read}
use Rattle.refutation.specs.Common.{Rule, form_of, certificate_in}
use Rattle.plan.specs.PlanData.{PlanData}
use Rattle.plan.specs.PlanText.{◌>=>◌, in_text, certificate_or_null, json_of, value_of, plan_in, plan_of}
use Rattle.plan.specs.PlanClaims.{PlacedClaim, claims_in}
use Rattle.plan.specs.WithCertificates.{with_certificates}
use Rattle.plan.specs.Rewriting.{plan_written}
use Rattle.plan.specs.Written.{spelt, rewritten, IsCompact}
use Rattle.plan.proofs.Text.{is_json}
use Rattle.plan.proofs.Reread.{found_ok, ok_is}
use Rattle.plan.proofs.RereadPlan.{AreRead, plan-reread}
use Rattle.plan.proofs.GoodParents.{parents-good}
use Rattle.std.proofs.lemmas.Grind.{common_steps}

-- ---- certificates

-- null is no certificate
pub some-certificate : (d : Data) (r : Rule) → certificate_in d ≡ Ok r → certificate_or_null d ≡ Ok (Some r)
unfolding certificate_in form_of
some-certificate (object ms) r h = rw h refl
some-certificate d r h = absurd (cc)

-- ---- texts

pub value-nests : (text : List ℕ) (d : Data) → value_of text ≡ Ok d → depth d ≤ max_depth
unfolding value_of json_of
value-nests text d h = grind (arith, common_steps, depth-read, Bool, Err, Ok, Some, found_ok)

rewritten-is : (text : List ℕ) (d : Data) (plan : PlanData) (claims : List PlacedClaim) (rs : List (Option Rule)) → value_of text ≡ Ok d → plan_in d ≡ Ok plan → claims_in plan ≡ Ok claims → rewritten text rs ≡ Ok (with_certificates plan rs)
unfolding rewritten plan_of
rewritten-is text d plan claims rs value is listed = grind (arith, common_steps)

pub writes : (text bytes : List ℕ) (d y : Data) (plan : PlanData) (claims : List PlacedClaim) (vs : List Data) (rs : List (Option Rule)) → value_of text ≡ Ok d → plan_in d ≡ Ok plan → claims_in plan ≡ Ok claims → AreRead vs rs → plan_written d vs ≡ Ok y
    → IsUtf8 bytes → (depth y ≤ max_depth → read bytes ≡ Some y) → IsOkAnd (rewritten text rs) (λ p. spelt bytes ≡ Ok p)
writes text bytes d y plan claims vs rs value is listed h written utf8 back =
    let again = plan-reread d plan vs rs h (parents-good plan claims listed) is in
    let same : again.value ≡ y = ok_is again.value y (sym again.is ∙ written) in
    let shallow : depth y ≤ max_depth = subst (λ z. depth z ≤ max_depth) same (again.nests max_depth (value-nests text d value) (omega arith)) in
    let spells : spelt bytes ≡ Ok (with_certificates plan rs) = (λ i. in_text (is_json bytes y utf8 (back shallow) i) >=> plan_in) ∙ ap plan_in (sym same) ∙ again.read in
    subst (λ r. IsOkAnd r (λ p. spelt bytes ≡ Ok p)) (sym (rewritten-is text d plan claims rs value is listed)) spells

pub compact : (text bytes : List ℕ) (d y : Data) (plan : PlanData) (claims : List PlacedClaim) (vs : List Data) (rs : List (Option Rule)) → value_of text ≡ Ok d → plan_in d ≡ Ok plan → claims_in plan ≡ Ok claims → AreRead vs rs → plan_written d vs ≡ Ok y
    → IsUtf8 bytes → (depth y ≤ max_depth → read bytes ≡ Some y) → (has_float y ≡ false → bytes ≡ compact_text y) → IsCompact bytes
compact text bytes d y plan claims vs rs value is listed h written utf8 back plain =
    let again = plan-reread d plan vs rs h (parents-good plan claims listed) is in
    let same : again.value ≡ y = ok_is again.value y (sym again.is ∙ written) in
    let shallow : depth y ≤ max_depth = subst (λ z. depth z ≤ max_depth) same (again.nests max_depth (value-nests text d value) (omega arith)) in
    (y, is_json bytes y utf8 (back shallow), plain)
