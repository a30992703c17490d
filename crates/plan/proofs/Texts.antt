-- Texts that were put token by token, and certificates that are read back.
use Rattle.std.proofs.Common.{◌≡◌, ℕ, zero, suc, ◌≤◌, List, [], ◌∷◌, ◌++◌, ap, sym, ◌∙◌, arith, append-nil, Option, Some, All, option_and_then, option_map}
use Rattle.std.specs.declared.alloc.Global.{Global}
use Rattle.std.specs.Str.{IsUtf8}
use Rattle.std.proofs.lemmas.List.Elements.{All-head, All-tail}
use Rattle.json.specs.Token.{Token}
use Rattle.json.specs.Json as json
use Rattle.json.specs.Tree.{json_tokens}
use Rattle.json.proofs.Printed.Trees.{value-json_tokens}
use Rattle.json.specs.Lex.{tokens}
use Rattle.json.specs.Print.{print}
use Rattle.json.specs.Written.{Written}
use Rattle.serde_json.specs.Data.{Data, depth}
use Rattle.serde_json.specs.Read.{of_json, read, max_depth}
use Rattle.serde_json.specs.Written.{WritesValue}
use Rattle.serde_json.proofs.Texts.{tokens_from_order, print-outline}
use Rattle.refutation.specs.declared.certificate.Certificate.{Certificate}
use Rattle.refutation.specs.Common.{certificate_rule}
use Rattle.plan.specs.Rewriting.{value_or_null}
use Rattle.plan.specs.Certificates.{certificate_values, IsReadBack}
use Rattle.plan.specs.PutPlans.{IsTextOf}
use Rattle.std.proofs.lemmas.Grind.{common_steps}

-- ---- texts

-- what was put for a value is read as that value
read_back : (d : Data) (ts : List Token) (text : List ℕ) → WritesValue d [] ts → tokens text ≡ ts → depth d ≤ max_depth → read text ≡ Some d
read_back d ts text put same shallow =
    let whole : json.value max_depth (tokens text) ≡ Some (put.0, []) = ap (json.value max_depth) (same ∙ put.1 ∙ sym (append-nil (json_tokens put.0))) ∙ value-json_tokens put.0 max_depth [] (omega (arith, put.3)) in
    ap (λ r. option_and_then of_json (option_and_then (λ p. json.if_last p.0 p.1) r)) whole ∙ put.2

-- the text of a writer that held nothing at first
pub text_of : (d : Data) (w : Written) (bytes : List ℕ) → WritesValue d [] w.tokens → w.before ≡ [] → bytes ≡ w.before ++ print w.tokens → tokens (print w.tokens) ≡ w.tokens → IsUtf8 (print w.tokens) → IsTextOf d bytes
text_of d w bytes put none is reads utf8 = grind (arith, common_steps, read_back, tokens_from_order, print-outline, (print-outline d))

-- ---- certificates

pub nested : (cs : List (Option (Certificate Global))) (i : ℕ) → All (λ c. IsReadBack (option_map certificate_rule c)) cs → depth (value_or_null (certificate_values cs) i) ≤ 81
nested [] i h = omega arith
nested (c ∷ cs) zero h = (All-head (λ c. IsReadBack (option_map certificate_rule c)) c cs h).nests
nested (c ∷ cs) (suc i) h = nested cs i (All-tail (λ c. IsReadBack (option_map certificate_rule c)) c cs h)
