-- Values of a tape that are put as they are.
use Rattle.std.proofs.Common.{◌≡◌, List, [], Some, ap, sym, subst, ◌∙◌}
use Rattle.json.specs.Token.{begin_array, end_array}
use Rattle.json.specs.Written.{Written}
use Rattle.serde_json.specs.Data.{Data, array, Items, no_items, item}
use Rattle.serde_json.specs.Find.{as_array}
use Rattle.quorum_expr.specs.Common.{items_in}
use Rattle.plan.specs.Puts.{Puts, PutsToken, Lists}
use Rattle.plan.proofs.Joined.{joined, joined-one}
use Rattle.plan.proofs.Putting.{listing, one_listed, listed}
use Rattle.std.proofs.lemmas.Grind.{common_steps}
use Rattle.std.proofs.Common.{arith}

array-data : (d : Data) (ds : Items) → Some ds ≡ as_array d → d ≡ array ds
array-data (array es) ds h = let same : ds ≡ es = cc in ap array (sym same)
array-data d ds h = absurd (cc)

-- An array was begun, and has all items of d except the rest.
pub record Copies (d : Data) (start now : Written) (rest : Items) : Type 0 where
  pub ds : List Data
  pub lists : Lists ds start now
  pub all : d ≡ array (joined ds rest)

pub begun : (d : Data) (old new : Written) (rest : Items) → Some rest ≡ as_array d → PutsToken begin_array old new → Copies d old new rest
begun d old new rest h t = record { ds = []; lists = listing old new t; all = array-data d rest h }

pub one_copied : (d e : Data) (start mid new : Written) (old rest : Items) → Copies d start mid old → old ≡ item e rest → Puts e mid new → Copies d start new rest
one_copied d e start mid new old rest c is p = grind (arith, common_steps, one_listed, joined, joined-one)

pub ended : (d : Data) (start now new : Written) (rest : Items) → Copies d start now rest → rest ≡ no_items → PutsToken end_array now new → Puts d start new
ended d start now new rest c none t = subst (λ x. Puts x start new) (sym (c.all ∙ ap (λ r. array (joined c.ds r)) none)) (listed c.ds start now new c.lists t)
