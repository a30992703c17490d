-- What a text spells, as JSON and as a plan.
use Rattle.std.proofs.Common.{◌≡◌, ℕ, ◌<◌, ◌≤◌, List, length, Bool, true, false, Some, None, Ok, Err, refl, arith, nat_le}
use Rattle.std.proofs.lemmas.Bool.Decides.{nat_tests}
use Rattle.std.specs.Str.{IsUtf8, is_utf8}
use Rattle.std.proofs.lemmas.Str.{IsUtf8-from_is_utf8, is_utf8-from_IsUtf8}
use Rattle.serde_json.specs.Data.{Data}
use Rattle.serde_json.specs.Read.{read}
use Rattle.volume_model.specs.declared.fault.Fault.TheVariants.{Malformed, OverLimit}
use Rattle.quorum_expr.specs.Common.{found_or_malformed}
use Rattle.plan.specs.declared.fault.PlanFault.TheVariants.{Text}
use Rattle.plan.specs.PlanText.{◌>=>◌, in_text, plan_in, json_of, value_of, plan_of}
use Rattle.std.proofs.lemmas.Grind.{common_steps}

pub is_json : (bytes : List ℕ) (d : Data) → IsUtf8 bytes → read bytes ≡ Some d → json_of bytes ≡ Ok d
unfolding json_of
is_json bytes d utf8 e = rw (is_utf8-from_IsUtf8 bytes utf8, e) refl

no_json_at : (bytes : List ℕ) (b : Bool) → is_utf8 bytes ≡ b → (b ≡ true → read bytes ≡ None) → json_of bytes ≡ Err Malformed
unfolding json_of
no_json_at bytes true is h = rw (is, h refl) refl
no_json_at bytes false is h = rw is refl

pub no_json : (bytes : List ℕ) → (IsUtf8 bytes → read bytes ≡ None) → json_of bytes ≡ Err Malformed
no_json bytes h = no_json_at bytes (is_utf8 bytes) refl (λ e. h (IsUtf8-from_is_utf8 bytes e))

-- ---- texts by their size and encoding

pub text-long : (text : List ℕ) → 16777216 < length text → plan_of text ≡ Err (Text OverLimit)
unfolding plan_of value_of
text-long text h = let no : nat_le (length text) 16777216 ≡ false = grind (arith, nat_tests) in rw no refl

pub text-bad : (text : List ℕ) → length text ≤ 16777216 → ¬ (IsUtf8 text) → plan_of text ≡ Err (Text Malformed)
unfolding plan_of value_of
text-bad text h bad = grind (arith, common_steps, nat_tests, no_json)

-- a text within the limits spells what its value does
pub text-read : (text : List ℕ) → length text ≤ 16777216 → IsUtf8 text → plan_of text ≡ (in_text (found_or_malformed (read text)) >=> plan_in)
unfolding plan_of value_of json_of
text-read text h utf8 = grind (arith, common_steps, nat_tests, is_utf8-from_IsUtf8)
