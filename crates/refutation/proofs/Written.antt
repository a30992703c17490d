-- Lists of JSON values that are written entry by entry.
use Rattle.std.proofs.Common.{◌≡◌, ℕ, List, [], ◌∷◌, map, refl, ap}
use Rattle.serde_json.specs.Data.{item}
use Rattle.serde_json.specs.View.{items_of}
use Rattle.refutation.specs.declared.Refutation.{Refutation}
use Rattle.refutation.specs.Rule.{branches_of}
use Rattle.refutation.specs.Refutation.{rule_of}
use Rattle.refutation.specs.Writing.{number_data, numbers_data, pair_data, pairs_data, certificate_data, branches_data}

pub numbers-are : (ns : List ℕ) → items_of (map number_data ns) ≡ numbers_data ns
numbers-are [] = refl
numbers-are (n ∷ ns) = ap (item (number_data n)) (numbers-are ns)

pub pairs-are : (ps : List (ℕ × ℕ)) → items_of (map pair_data ps) ≡ pairs_data ps
pairs-are [] = refl
pairs-are (p ∷ ps) = ap (item (pair_data p)) (pairs-are ps)

pub branches-are : {A : Type 0} (rs : List (Refutation A)) → items_of (map (λ r. certificate_data (rule_of r)) rs) ≡ branches_data (branches_of (map rule_of rs))
branches-are [] = refl
branches-are (r ∷ rs) = ap (item (certificate_data (rule_of r))) (branches-are rs)
