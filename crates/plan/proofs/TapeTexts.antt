-- Plans of a tape's text.
use Rattle.std.proofs.Common.{◌≡◌, ℕ, ◌≤◌, ◌∙◌, List, [], ◌∷◌, ◌++◌, length, map, refl, ap, ap₂, sym, subst, arith, Option, Some, None, Ok, Err, All, nat_le, option_map, true}
use Rattle.std.specs.declared.alloc.Global.{Global}
use Rattle.std.specs.Str.{IsUtf8}
use Rattle.std.proofs.lemmas.Bool.Decides.{nat_tests}
use Rattle.std.proofs.lemmas.List.Elements.{All-head, All-tail}
use Rattle.json.specs.Lex.{tokens}
use Rattle.json.specs.Print.{print}
use Rattle.json.specs.Written.{Written}
use Rattle.serde_json.specs.Data.{Data}
use Rattle.serde_json.specs.Read.{read}
use Rattle.serde_json.specs.Written.{WritesValue}
use Rattle.volume_model.specs.declared.fault.Fault.TheVariants.{Malformed}
use Rattle.quorum_expr.specs.Common.{found_or_malformed}
use Rattle.refutation.specs.Common.{certificate_rule}
use Rattle.refutation.specs.declared.certificate.Certificate.{Certificate}
use Rattle.plan.specs.declared.fault.PlanFault.TheVariants.{Text}
use Rattle.plan.specs.Kept.{KeepsValues}
use Rattle.plan.specs.PlanText.{◌>=>◌, in_text, certificate_or_null, plan_in, plan_of, value_of}
use Rattle.plan.specs.Rewriting.{plan_written}
use Rattle.plan.specs.Written.{IsCompact, rewritten}
use Rattle.plan.proofs.KeptValues.{keeps-values}
use Rattle.plan.proofs.RereadPlan.{AreRead}
use Rattle.plan.proofs.Rewrites.{compact, writes}
use Rattle.plan.proofs.Text.{is_json, text-read}
use Rattle.plan.specs.Certificates.{IsReadBack, certificate_values}
use Rattle.plan.specs.Taped.{HasClaims, Spells}
use Rattle.plan.specs.PutPlans.{IsTextOf, PutsMade, rules_in}
use Rattle.plan.proofs.Texts.{nested, text_of}
use Rattle.std.proofs.lemmas.Grind.{common_steps}

-- ---- reading

-- the plan of a text is that of its value
pub plan-is : (text : List ℕ) (d : Data) → length text ≤ 16777216 → IsUtf8 text → Some d ≡ read text → plan_of text ≡ plan_in d
plan-is text d within utf8 e = text-read text within utf8 ∙ ap (λ o. in_text (found_or_malformed o) >=> plan_in) (sym e)

pub no-plan : (text : List ℕ) → length text ≤ 16777216 → IsUtf8 text → read text ≡ None → plan_of text ≡ Err (Text Malformed)
no-plan text within utf8 e = text-read text within utf8 ∙ ap (λ o. in_text (found_or_malformed o) >=> plan_in) e

value-is : (text : List ℕ) (d : Data) → length text ≤ 16777216 → IsUtf8 text → Some d ≡ read text → value_of text ≡ Ok d
unfolding value_of
value-is text d within utf8 e = let yes : nat_le (length text) 16777216 ≡ true = grind (arith, nat_tests) in rw yes (is_json text d utf8 (sym e))

-- ---- writing

all-read : (cs : List (Option (Certificate Global))) → All (λ c. IsReadBack (option_map certificate_rule c)) cs → map certificate_or_null (certificate_values cs) ≡ map Ok (rules_in cs)
all-read [] h = refl
all-read (c ∷ cs) h = ap₂ (λ x xs. x ∷ xs) (All-head (λ c. IsReadBack (option_map certificate_rule c)) c cs h).read (all-read cs (All-tail (λ c. IsReadBack (option_map certificate_rule c)) c cs h))

values-read : (cs : List (Option (Certificate Global))) → All (λ c. IsReadBack (option_map certificate_rule c)) cs → AreRead (certificate_values cs) (rules_in cs)
values-read cs h = record { read = all-read cs h; nest = λ i. nested cs i h }

-- What is written of a text with these certificates.
pub record IsWritten (text : List ℕ) (cs : List (Option (Certificate Global))) (bytes : List ℕ) : Type 0 where
  pub written : Spells (rewritten text (rules_in cs)) bytes
  pub compact : IsCompact bytes
  pub kept : KeepsValues text bytes

-- what was put of a text's value is the text with these certificates
pub is-written : (text : List ℕ) (d : Data) (cs : List (Option (Certificate Global))) (count : ℕ) (old new : Written) (bytes : List ℕ) → length text ≤ 16777216 → IsUtf8 text → Some d ≡ read text → HasClaims text count → All (λ c. IsReadBack (option_map certificate_rule c)) cs
    → old.tokens ≡ [] → old.before ≡ [] → PutsMade (plan_written d (certificate_values cs)) old new → bytes ≡ new.before ++ print new.tokens → tokens (print new.tokens) ≡ new.tokens → IsUtf8 (print new.tokens) → IsWritten text cs bytes
is-written text d cs count old new bytes within utf8 e has back none before p items reads printed =
    let put : WritesValue p.value [] new.tokens = subst (λ ts. WritesValue p.value ts new.tokens) none p.puts.value in
    let t : IsTextOf p.value bytes = text_of p.value new bytes put (p.puts.before ∙ before) items reads printed in
    let value = value-is text d within utf8 e in
    let is : plan_in d ≡ Ok has.plan = sym (plan-is text d within utf8 e) ∙ has.is in
    let vs = certificate_values cs in
    let rs = rules_in cs in
    let read = values-read cs back in
    grind (arith, common_steps, writes, compact, keeps-values)
