-- Values one after another, and then others.
use Rattle.std.proofs.Common.{◌≡◌, ℕ, List, [], ◌∷◌, ◌++◌, map, refl, ap}
use Rattle.serde_json.specs.Data.{Data, Items, no_items, item}
use Rattle.refutation.specs.Common.{number_data, numbers_data, pair_data, pairs_data}

abbrev pub joined : List Data → Items → Items
joined [] rest = rest
joined (d ∷ ds) rest = item d (joined ds rest)

pub joined-one : (ds : List Data) (d : Data) (rest : Items) → joined ds (item d rest) ≡ joined (ds ++ d ∷ []) rest
joined-one [] d rest = refl
joined-one (e ∷ ds) d rest = ap (item e) (joined-one ds d rest)

pub joined-numbers : (ns : List ℕ) → joined (map number_data ns) no_items ≡ numbers_data ns
joined-numbers [] = refl
joined-numbers (n ∷ ns) = ap (item (number_data n)) (joined-numbers ns)

pub joined-pairs : (ps : List (ℕ × ℕ)) → joined (map pair_data ps) no_items ≡ pairs_data ps
joined-pairs [] = refl
joined-pairs (p ∷ ps) = ap (item (pair_data p)) (joined-pairs ps)
