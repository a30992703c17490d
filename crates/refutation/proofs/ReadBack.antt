-- A certificate that was written is read back.
use Rattle.std.proofs.Common.{◌≡◌, ℕ, zero, suc, ◌≤◌, ◌∙◌, List, [], ◌∷◌, length, Ok, refl, ap, arith, codes, true, ◌&&◌, nat_le, nat_lt, All}
use Rattle.std.proofs.lemmas.List.Elements.{All-head, All-tail}
use Rattle.std.proofs.lemmas.Bool.{and_parts}
use Rattle.std.proofs.lemmas.Bool.Decides.{nat_tests}
use Rattle.serde_json.specs.Data as json
use Rattle.serde_json.specs.Data.{Data, Items}
use Rattle.serde_json.specs.Events.{items_len}
use Rattle.quorum_expr.specs.Common.{at_key}
use Rattle.refutation.specs.declared.Side.{Side}
use Rattle.refutation.specs.declared.Side.TheVariants.{Left, Right}
use Rattle.refutation.specs.Rule.{Rule, Branches, dead, clash, open_all, pick, pair_up, split, no_branch, branch, branches_of, branch_count, depth_of, branch_depth}
use Rattle.refutation.specs.Limits.{keeps_lists, each_keeps_lists, is_certificate}
use Rattle.refutation.specs.Ranges.{IsPairInRange, HasRanges, EachHasRanges}
use Rattle.refutation.specs.Writing.{side_text, number_data, numbers_data, pair_data, pairs_data, dead_data, clash_data, open_data, pick_data, match_data, split_data, certificate_data, branches_data}
use Rattle.refutation.specs.Reading.{number_to, number_at, side_of, numbers_of, pair_of, pairs_of, Form, dead_form, clash_form, open_form, pick_form, match_form, split_form, dead_in, clash_in, open_in, pick_in, match_in, split_in, form_of, is_short, each_rule, rule_from, rule_level, rule_at, certificate_in}

-- ---- numbers

at_most : (n most : ℕ) → n ≤ most → nat_le n most ≡ true
at_most n most h = grind (arith, nat_tests)

number_to-written : (most n : ℕ) → n ≤ most → number_to most (number_data n) ≡ Ok n
unfolding number_to
number_to-written most n h = rw (at_most n most h) refl

number_at-written : (key : List ℕ) (most n : ℕ) (d : Data) → at_key key d ≡ Ok (number_data n) → n ≤ most → number_at key most d ≡ Ok n
unfolding number_at
number_at-written key most n d at h = rw at (number_to-written most n h)

numbers_of-written : (ns : List ℕ) → All (λ n. n ≤ 255) ns → numbers_of (numbers_data ns) ≡ Ok ns
numbers_of-written [] h = refl
numbers_of-written (n ∷ ns) h =
    rw (number_to-written 255 n (All-head (λ m. m ≤ 255) n ns h), numbers_of-written ns (All-tail (λ m. m ≤ 255) n ns h)) refl

pair_of-written : (p : ℕ × ℕ) → IsPairInRange p → pair_of (pair_data p) ≡ Ok p
unfolding pair_of
pair_of-written p h = rw (number_to-written 255 p.0 h.0, number_to-written 255 p.1 h.1) refl

pairs_of-written : (ps : List (ℕ × ℕ)) → All IsPairInRange ps → pairs_of (pairs_data ps) ≡ Ok ps
pairs_of-written [] h = refl
pairs_of-written (p ∷ ps) h =
    rw (pair_of-written p (All-head IsPairInRange p ps h), pairs_of-written ps (All-tail IsPairInRange p ps h)) refl

side_of-written : (side : Side) → side_of (json.string (side_text side)) ≡ Ok side
side_of-written Left = refl
side_of-written Right = refl

-- ---- one rule

form_of-dead : (side : Side) (i : ℕ) → i ≤ 65535 → form_of (dead_data side i) ≡ Ok (dead_form side i)
unfolding form_of dead_in
form_of-dead side i h = rw (side_of-written side, number_at-written (codes "item") 65535 i (dead_data side i) refl h) refl

form_of-clash : (i j : ℕ) → i ≤ 65535 → j ≤ 65535 → form_of (clash_data i j) ≡ Ok (clash_form i j)
unfolding form_of clash_in
form_of-clash i j h k =
    rw (number_at-written (codes "left") 65535 i (clash_data i j) refl h, number_at-written (codes "right") 65535 j (clash_data i j) refl k) refl

form_of-open : (side : Side) (i : ℕ) (d : Data) → i ≤ 65535 → form_of (open_data side i d) ≡ Ok (open_form side i d)
unfolding form_of open_in
form_of-open side i d h = rw (side_of-written side, number_at-written (codes "item") 65535 i (open_data side i d) refl h) refl

form_of-pick : (side : Side) (i : ℕ) (children : List ℕ) (ds : Items) → i ≤ 65535 → All (λ c. c ≤ 255) children
    → form_of (pick_data side i (numbers_data children) ds) ≡ Ok (pick_form side i children ds)
unfolding form_of pick_in
form_of-pick side i children ds h k =
    rw (side_of-written side, number_at-written (codes "item") 65535 i (pick_data side i (numbers_data children) ds) refl h, numbers_of-written children k) refl

form_of-match : (i j : ℕ) (pairs : List (ℕ × ℕ)) (ds : Items) → i ≤ 65535 → j ≤ 65535 → All IsPairInRange pairs
    → form_of (match_data i j (pairs_data pairs) ds) ≡ Ok (match_form i j pairs ds)
unfolding form_of match_in
form_of-match i j pairs ds h k l =
    rw (number_at-written (codes "left") 65535 i (match_data i j (pairs_data pairs) ds) refl h, number_at-written (codes "right") 65535 j (match_data i j (pairs_data pairs) ds) refl k, pairs_of-written pairs l) refl

form_of-split : (x : ℕ) (left right : Data) → x ≤ 63 → form_of (split_data x left right) ≡ Ok (split_form x left right)
unfolding form_of split_in
form_of-split x left right h = rw (number_at-written (codes "member") 63 x (split_data x left right) refl h) refl

-- ---- all levels

-- the branches as a list
abbrev pub listed_rules : Branches → List Rule
listed_rules no_branch = []
listed_rules (branch rule rest) = rule ∷ listed_rules rest

branches_of-listed : (bs : Branches) → branches_of (listed_rules bs) ≡ bs
branches_of-listed no_branch = refl
branches_of-listed (branch rule rest) = ap (branch rule) (branches_of-listed rest)

items_len-branches : (bs : Branches) → items_len (branches_data bs) ≡ branch_count bs
items_len-branches no_branch = refl
items_len-branches (branch rule rest) = omega (arith, items_len-branches rest)

short : (entries : ℕ) (bs : Branches) → nat_le entries 255 ≡ true → nat_le (branch_count bs) 255 ≡ true → (nat_le entries 255 && nat_le (items_len (branches_data bs)) 255) ≡ true
short entries bs h k = rw (items_len-branches bs, h, k) refl

-- a form that is short, where its level is allowed
level-short : (left : ℕ) (form : Form) → is_short form ≡ true → rule_level (suc left) form ≡ rule_from (rule_at left) form
unfolding rule_level
level-short left form h = rw h refl

at_form : (left : ℕ) (d : Data) (form : Form) → form_of d ≡ Ok form → is_short form ≡ true → rule_at (suc left) d ≡ rule_from (rule_at left) form
at_form left d form is h = rw is (level-short left form h)

below_64 : (x : ℕ) → nat_lt x 64 ≡ true → x ≤ 63
below_64 x h = grind (arith, nat_tests)

mutual
  rule_at-written : (r : Rule) (left : ℕ) → depth_of r ≤ left → keeps_lists r ≡ true → HasRanges r → rule_at left (certificate_data r) ≡ Ok r
  rule_at-written (dead side i) zero d k h = absurd (omega arith)
  rule_at-written (dead side i) (suc left) d k h = at_form left _ _ (form_of-dead side i h) refl
  rule_at-written (clash i j) zero d k h = absurd (omega arith)
  rule_at-written (clash i j) (suc left) d k h = at_form left _ _ (form_of-clash i j h.0 h.1) refl
  rule_at-written (open_all side i rule) zero d k h = absurd (omega arith)
  rule_at-written (open_all side i rule) (suc left) d k h =
      at_form left _ _ (form_of-open side i (certificate_data rule) h.0) refl ∙ rw (rule_at-written rule left (omega arith) k h.1) refl
  rule_at-written (pick side i children branches) zero d k h = absurd (omega arith)
  rule_at-written (pick side i children branches) (suc left) d k h =
      let lists = and_parts _ _ k in
      let more = and_parts _ _ lists.1 in
      at_form left _ _ (form_of-pick side i children (branches_data branches) h.0 h.1) (short (length children) branches lists.0 more.0)
      ∙ rw (each_rule-written branches left (omega arith) more.1 h.2) (ap (λ bs. Ok (pick side i children bs)) (branches_of-listed branches))
  rule_at-written (pair_up i j pairs branches) zero d k h = absurd (omega arith)
  rule_at-written (pair_up i j pairs branches) (suc left) d k h =
      let lists = and_parts _ _ k in
      let more = and_parts _ _ lists.1 in
      at_form left _ _ (form_of-match i j pairs (branches_data branches) h.0 h.1 h.2) (short (length pairs) branches lists.0 more.0)
      ∙ rw (each_rule-written branches left (omega arith) more.1 h.3) (ap (λ bs. Ok (pair_up i j pairs bs)) (branches_of-listed branches))
  rule_at-written (split x one other) zero d k h = absurd (omega arith)
  rule_at-written (split x one other) (suc left) d k h =
      let lists = and_parts _ _ k in
      let more = and_parts _ _ lists.1 in
      at_form left _ _ (form_of-split x (certificate_data one) (certificate_data other) (below_64 x lists.0)) refl
      ∙ rw (rule_at-written one left (omega arith) more.0 h.0, rule_at-written other left (omega arith) more.1 h.1) refl

  each_rule-written : (bs : Branches) (left : ℕ) → branch_depth bs ≤ left → each_keeps_lists bs ≡ true → EachHasRanges bs → each_rule (rule_at left) (branches_data bs) ≡ Ok (listed_rules bs)
  each_rule-written no_branch left d k h = refl
  each_rule-written (branch rule rest) left d k h =
      let both = and_parts _ _ k in
      rw (rule_at-written rule left (omega arith) both.0 h.0, each_rule-written rest left (omega arith) both.1 h.1) refl

pub certificate_in-written : (r : Rule) → is_certificate r ≡ true → HasRanges r → certificate_in (certificate_data r) ≡ Ok r
unfolding certificate_in
certificate_in-written r is h =
    let parts = and_parts (nat_le (depth_of r) 40) _ is in
    let shallow : depth_of r ≤ 40 = grind (arith, nat_tests, parts.0) in
    rw (rule_at-written r 40 shallow (and_parts (keeps_lists r) _ parts.1).0 h, is) refl
