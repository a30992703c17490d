-- The JSON of a certificate, with the keys of each object in order.
use Rattle.std.specs.Prelude.{ℕ, List, [], ◌∷◌, codes}
use Rattle.serde_json.specs.Data as json
use Rattle.serde_json.specs.Data.{Data, Items, unsigned, no_items, item, no_members}
use Rattle.refutation.specs.declared.Side.{Side}
use Rattle.refutation.specs.declared.Side.TheVariants.{Left, Right}
use Rattle.refutation.specs.Rule.{Rule, Branches, dead, clash, open_all, pick, pair_up, split, no_branch, branch}

abbrev pub side_text : Side → List ℕ
side_text Left = codes "left"
side_text Right = codes "right"

abbrev pub number_data : ℕ → Data
number_data n = json.number (unsigned n)

abbrev pub numbers_data : List ℕ → Items
numbers_data [] = no_items
numbers_data (n ∷ ns) = item (number_data n) (numbers_data ns)

abbrev pub pair_data : ℕ × ℕ → Data
pair_data p = json.array (item (number_data p.0) (item (number_data p.1) no_items))

abbrev pub pairs_data : List (ℕ × ℕ) → Items
pairs_data [] = no_items
pairs_data (p ∷ ps) = item (pair_data p) (pairs_data ps)

abbrev pub dead_data : Side → ℕ → Data
dead_data side i = json.object (json.member (codes "item") (number_data i)
    (json.member (codes "rule") (json.string (codes "dead")) (json.member (codes "side") (json.string (side_text side))
    no_members)))

abbrev pub clash_data : ℕ → ℕ → Data
clash_data i j = json.object (json.member (codes "left") (number_data i) (json.member (codes "right") (number_data j)
    (json.member (codes "rule") (json.string (codes "clash")) no_members)))

abbrev pub open_data : Side → ℕ → Data → Data
open_data side i d =
    json.object (json.member (codes "item") (number_data i) (json.member (codes "rule") (json.string (codes "open"))
    (json.member (codes "side") (json.string (side_text side)) (json.member (codes "then") d no_members))))

abbrev pub pick_data : Side → ℕ → Items → Items → Data
pick_data side i children branches =
    json.object (json.member (codes "children") (json.array children) (json.member (codes "item") (number_data i)
    (json.member (codes "rule") (json.string (codes "pick"))
    (json.member (codes "side") (json.string (side_text side)) (json.member (codes "then") (json.array branches)
    no_members)))))

abbrev pub match_data : ℕ → ℕ → Items → Items → Data
match_data i j pairs branches =
    json.object (json.member (codes "left") (number_data i) (json.member (codes "pairs") (json.array pairs) (json.member (codes "right") (number_data j) (json.member (codes "rule") (json.string (codes "match")) (json.member (codes "then") (json.array branches) no_members)))))

abbrev pub split_data : ℕ → Data → Data → Data
split_data x left right =
    json.object (json.member (codes "left") left (json.member (codes "member") (number_data x)
    (json.member (codes "right") right (json.member (codes "rule") (json.string (codes "split")) no_members))))

abbrev mutual
  -- the JSON of a rule
  pub certificate_data : Rule → Data
  certificate_data (dead side i) = dead_data side i
  certificate_data (clash i j) = clash_data i j
  certificate_data (open_all side i rule) = open_data side i (certificate_data rule)
  certificate_data (pick side i children branches) = pick_data side i (numbers_data children) (branches_data branches)
  certificate_data (pair_up i j pairs branches) = match_data i j (pairs_data pairs) (branches_data branches)
  certificate_data (split x left right) = split_data x (certificate_data left) (certificate_data right)

  -- the JSON of branches, in order
  pub branches_data : Branches → Items
  branches_data no_branch = no_items
  branches_data (branch rule rest) = item (certificate_data rule) (branches_data rest)
