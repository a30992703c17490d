-- No fault means that the rule refutes.
use Rattle.std.proofs.Common.{◌≡◌, ℕ, zero, suc, ◌+◌, ◌<◌, List, [], ◌∷◌, length, map, arith, refl, ap, ◌∙◌, sym, true≢false, Bool, true, false, not, ◌&&◌, ◌||◌, ◌==◌, nat_eq, nat_lt, if◌then◌else◌, Option, Some, None, slice_get}
use Rattle.std.specs.List.{list_any, IsDistinct, AllByRecursion}
use Rattle.std.specs.FinSet.{contains, difference}
use Rattle.std.proofs.lemmas.Bool.Decides.{nat_tests}
use Rattle.volume_model.specs.Common.{Formula, Children, at_least, sat, total_weight, formulas, EachWeighs}
use Rattle.volume_model.specs.Formula.{member}
use Rattle.volume_model.proofs.FormulaLaws.{EachWeighs-from, EachWeighs-to}
use Rattle.quorum_expr.specs.Common.{all_members}
use Rattle.refutation.specs.declared.Side.{Side}
use Rattle.refutation.specs.declared.Side.TheVariants.{Left, Right}
use Rattle.refutation.specs.Common.{Rule, Branches, dead, clash, open_all, pick, pair_up, split, no_branch, branch, branch_count}
use Rattle.volume_model.specs.declared.fault.Fault.{Fault}
use Rattle.volume_model.specs.declared.fault.Fault.TheVariants.{NotDead, NoClash, NotAll, TooFewPicked, BadPair, CountTooSmall, BranchCount}
use Rattle.quorum_checker.specs.declared.fault.FaultAt.{FaultAt}
use Rattle.quorum_checker.specs.Refutes.{State, items_of, absent_of, replaced, paired, without, picked_weight, paired_weight, Refutes, RefutesPicked, RefutesPaired}
use Rattle.quorum_checker.specs.FirstFault.{good_places, children_of, dead_fault, clash_fault, open_fault, pick_fault, pair_fault, or_else, first_of, under, at_item, place, first_fault, first_picked, first_paired}
use Rattle.quorum_checker.proofs.Nodes.{split_places, no_pick, no_pair, equal, both_true}
use Rattle.std.proofs.lemmas.Grind.{common_steps}

at_none : (o : Option Formula) (found : Formula → Option FaultAt) → at_item o found ≡ None → (f : Formula) × (o ≡ Some f) × (found f ≡ None)
at_none None found h = absurd (cc)
at_none (Some f) found h = (f, refl, h)

or_none : (o : Option Fault) (found : Option FaultAt) → or_else o found ≡ None → (o ≡ None) × (found ≡ None)
or_none None found h = (refl, h)
or_none (Some fault) found h = absurd (cc)

first_none : (a b : Option FaultAt) → first_of a b ≡ None → (a ≡ None) × (b ≡ None)
first_none None b h = (refl, h)
first_none (Some e) b h = absurd (cc)

under_none : (n : ℕ) (a : Option FaultAt) → under n a ≡ None → a ≡ None
under_none n None h = refl
under_none n (Some e) h = absurd (cc)

dead_none : (b : Bool) → (if b then Some NotDead else None) ≡ None → b ≡ false
dead_none true h = absurd (cc)
dead_none false h = refl

clash_none : (f g : Formula) → clash_fault f g ≡ None → (x : ℕ) × (f ≡ member x) × (g ≡ member x)
clash_none (member x) (member y) h =
    elim (x == y) as (λ b. (x == y) ≡ b → (if b then None else Some NoClash) ≡ None → (z : ℕ) × (member x ≡ member z) × (member y ≡ member z)) [
      | true ↦ λ e h. (x, refl, ap member (sym (equal x y e)))
      | false ↦ λ e h. absurd (cc)
    ] refl h
clash_none (member x) (at_least l others) h = absurd (cc)
clash_none (at_least k of) g h = absurd (cc)

all_none : (a b : Bool) → (if a && b then None else Some NotAll) ≡ None → (a ≡ true) × (b ≡ true)
all_none true true h = (refl, refl)
all_none true false h = absurd (cc)
all_none false b h = absurd (cc)

open_none : (f : Formula) → open_fault f ≡ None → (of : Children) × (f ≡ at_least (total_weight of) of) × EachWeighs of
open_none (member x) h = absurd (cc)
open_none (at_least k of) h = grind (arith, common_steps, all_none, equal, EachWeighs-from)

enough_none : (good few same : Bool) → (if good then (if few then (if same then None else Some BranchCount) else Some TooFewPicked) else Some BadPair) ≡ None → few ≡ true
enough_none true true same h = refl
enough_none true false same h = absurd (cc)
enough_none false few same h = absurd (cc)

counted_none : (good few same : Bool) → (if good then (if few then (if same then None else Some BranchCount) else Some CountTooSmall) else Some BadPair) ≡ None → few ≡ true
counted_none true true same h = refl
counted_none true false same h = absurd (cc)
counted_none false few same h = absurd (cc)

below : (m n : ℕ) → nat_lt m n ≡ true → m < n
below m n h = grind (arith, nat_tests)

picks : (f : Formula) (cs : List ℕ) (n : ℕ) → pick_fault f cs n ≡ None → (k : ℕ) × (of : Children) × (f ≡ at_least k of) × (good_places (length (formulas of)) cs ≡ true) × (total_weight of < k + picked_weight of cs) × (n ≡ length cs)
picks (member x) cs n h = absurd (cc)
picks (at_least k of) cs n h =
    let good = good_places (length (formulas of)) cs in let few = nat_lt (total_weight of) (k + picked_weight of cs) in
    let both = no_pick good few (n == length cs) h in
    (k, of, refl, both.0, below (total_weight of) (k + picked_weight of cs) (enough_none good few (n == length cs) h), equal n (length cs) both.1)

pairs_up : (f g : Formula) (ps : List (ℕ × ℕ)) (n : ℕ) → pair_fault f g ps n ≡ None → (k : ℕ) × (of : Children) × (l : ℕ) × (others : Children) × (f ≡ at_least k of) × (g ≡ at_least l others) × (good_places (length (formulas of)) (map (λ p. p.0) ps) ≡ true) × (good_places (length (formulas others)) (map (λ p. p.1) ps) ≡ true) × (total_weight of + total_weight others < k + l + paired_weight of others ps) × (n ≡ length ps)
pairs_up (member x) g ps n h = absurd (cc)
pairs_up (at_least k of) (member y) ps n h = absurd (cc)
pairs_up (at_least k of) (at_least l others) ps n h =
    let a = good_places (length (formulas of)) (map (λ (p : ℕ × ℕ). p.0) ps) in let b = good_places (length (formulas others)) (map (λ (p : ℕ × ℕ). p.1) ps) in
    let few = nat_lt (total_weight of + total_weight others) (k + l + paired_weight of others ps) in
    let both = no_pair (a && b) few (n == length ps) h in
    let good = both_true a b both.0 in
    (k, of, l, others, refl, refl, good.0, good.1, below (total_weight of + total_weight others) (k + l + paired_weight of others ps) (counted_none (a && b) few (n == length ps) h), equal n (length ps) both.1)

-- ---- distinct places

none_is : (c : ℕ) (cs : List ℕ) → list_any (λ d. d == c) cs ≡ false → AllByRecursion (λ y. nat_eq c y ≡ false) cs
none_is c [] h = tt
none_is c (d ∷ cs) h = let both = neither (d == c) (list_any (λ d. d == c) cs) h in (other_way d c both.0, none_is c cs both.1)
  where
    neither : (a b : Bool) → (a || b) ≡ false → (a ≡ false) × (b ≡ false)
    neither false false h = (refl, refl)
    neither false true h = absurd (true≢false h)
    neither true b h = absurd (true≢false h)

    other_way : (d c : ℕ) → (d == c) ≡ false → nat_eq c d ≡ false
    other_way d c h = grind (arith, nat_tests)

apart_from : (low : Bool) (any rest : Bool) → (low && (not any && rest)) ≡ true → any ≡ false
apart_from true false rest h = refl
apart_from true true rest h = absurd (true≢false (sym h))
apart_from false any rest h = absurd (true≢false (sym h))

distinct : (n : ℕ) (cs : List ℕ) → good_places n cs ≡ true → IsDistinct nat_eq cs
unfolding IsDistinct
distinct n [] h = tt
distinct n (c ∷ cs) h = grind (arith, common_steps, none_is, apart_from, split_places, (distinct n cs (split_places n c cs h).1))

place_is : (fs : List Formula) (c : ℕ) → c < length fs → slice_get fs c ≡ Some (place fs c)
place_is [] c h = absurd (omega arith)
place_is (f ∷ fs) zero h = refl
place_is (f ∷ fs) (suc c) h = place_is fs c (omega arith)

mutual
  pub refutes : (rule : Rule) (st : State) → first_fault rule st ≡ None → Refutes rule st
  refutes (dead side i) st h =
      let a = at_none (slice_get (items_of side st) i) (λ f. or_else (dead_fault f (absent_of side st)) None) h in
      (a.0, a.1, dead_none (sat a.0 (contains (difference all_members (absent_of side st)))) (or_none (dead_fault a.0 (absent_of side st)) None a.2).0)
  refutes (clash i j) st h =
      let a = at_none (slice_get st.left i) (λ f. at_item (slice_get st.right j) (λ g. or_else (clash_fault f g) None)) h in
      let b = at_none (slice_get st.right j) (λ g. or_else (clash_fault a.0 g) None) a.2 in
      let c = clash_none a.0 b.0 (or_none (clash_fault a.0 b.0) None b.2).0 in
      (c.0, a.1 ∙ ap Some c.1, b.1 ∙ ap Some c.2)
  refutes (open_all side i rule) st h =
      let a = at_none (slice_get (items_of side st) i) (λ f. or_else (open_fault f) (under 0 (first_fault rule (replaced side i (children_of f) st)))) h in
      let o = or_none (open_fault a.0) (under 0 (first_fault rule (replaced side i (children_of a.0) st))) a.2 in
      let b = open_none a.0 o.0 in
      let inner : first_fault rule (replaced side i (formulas b.0) st) ≡ None =
      ap (λ f. first_fault rule (replaced side i (children_of f) st)) (sym b.1) ∙ under_none 0 (first_fault rule (replaced side i (children_of a.0) st)) o.1 in
      (b.0, a.1 ∙ ap Some b.1, b.2, refutes rule (replaced side i (formulas b.0) st) inner)
  refutes (pick side i cs branches) st h =
      let a = at_none (slice_get (items_of side st) i) (λ f. or_else (pick_fault f cs (branch_count branches)) (first_picked 0 branches side i (children_of f) cs st)) h in
      let o = or_none (pick_fault a.0 cs (branch_count branches)) (first_picked 0 branches side i (children_of a.0) cs st) a.2 in
      let b = picks a.0 cs (branch_count branches) o.0 in
      let inner : first_picked 0 branches side i (formulas b.1) cs st ≡ None = ap (λ f. first_picked 0 branches side i (children_of f) cs st) (sym b.2) ∙ o.1 in
      (b.0, b.1, a.1 ∙ ap Some b.2, distinct (length (formulas b.1)) cs b.3, b.4, refutes_picked branches 0 side i b.1 cs st inner b.3 b.5)
  refutes (pair_up i j ps branches) st h =
      let a = at_none (slice_get st.left i) (λ f. at_item (slice_get st.right j) (λ g. or_else (pair_fault f g ps (branch_count branches)) (first_paired 0 branches i j (children_of f) (children_of g) ps st))) h in
      let d = at_none (slice_get st.right j) (λ g. or_else (pair_fault a.0 g ps (branch_count branches)) (first_paired 0 branches i j (children_of a.0) (children_of g) ps st)) a.2 in
      let o = or_none (pair_fault a.0 d.0 ps (branch_count branches)) (first_paired 0 branches i j (children_of a.0) (children_of d.0) ps st) d.2 in
      let b = pairs_up a.0 d.0 ps (branch_count branches) o.0 in
      let inner : first_paired 0 branches i j (formulas b.1) (formulas b.3) ps st ≡ None = (λ t. first_paired 0 branches i j (children_of (sym b.4 t)) (children_of (sym b.5 t)) ps st) ∙ o.1 in (
        b.0,
        b.1,
        a.1 ∙ ap Some b.4,
        b.2,
        b.3,
        d.1 ∙ ap Some b.5,
        distinct (length (formulas b.1)) (map (λ (p : ℕ × ℕ). p.0) ps) b.6,
        distinct (length (formulas b.3)) (map (λ (p : ℕ × ℕ). p.1) ps) b.7,
        b.8,
        refutes_paired branches 0 i j b.1 b.3 ps st inner b.6 b.7 b.9,
      )
  refutes (split x left right) st h =
      let both = first_none (under 0 (first_fault left (without Left x st))) (under 1 (first_fault right (without Right x st))) h in
      (refutes left (without Left x st) (under_none 0 (first_fault left (without Left x st)) both.0), refutes right (without Right x st) (under_none 1 (first_fault right (without Right x st)) both.1))

  refutes_picked : (branches : Branches) (n : ℕ) (side : Side) (i : ℕ) (of : Children) (cs : List ℕ) (st : State) → first_picked n branches side i (formulas of) cs st ≡ None → good_places (length (formulas of)) cs ≡ true → branch_count branches ≡ length cs → RefutesPicked branches side i of cs st
  refutes_picked no_branch n side i of [] st h good same = tt
  refutes_picked no_branch n side i of (c ∷ cs) st h good same = absurd (omega arith)
  refutes_picked (branch rule rest) n side i of [] st h good same = absurd (omega arith)
  refutes_picked (branch rule rest) n side i of (c ∷ cs) st h good same =
      let f = place (formulas of) c in
      let both = first_none (under n (first_fault rule (replaced side i (f ∷ []) st))) (first_picked (n + 1) rest side i (formulas of) cs st) h in
      let places = split_places (length (formulas of)) c cs good in (
        f,
        place_is (formulas of) c places.0,
        refutes rule (replaced side i (f ∷ []) st) (under_none n (first_fault rule (replaced side i (f ∷ []) st)) both.0),
        refutes_picked rest (n + 1) side i of cs st both.1 places.1 (omega arith),
      )

  refutes_paired : (branches : Branches) (n i j : ℕ) (of others : Children) (ps : List (ℕ × ℕ)) (st : State) → first_paired n branches i j (formulas of) (formulas others) ps st ≡ None → good_places (length (formulas of)) (map (λ p. p.0) ps) ≡ true → good_places (length (formulas others)) (map (λ p. p.1) ps) ≡ true → branch_count branches ≡ length ps → RefutesPaired branches i j of others ps st
  refutes_paired no_branch n i j of others [] st h good1 good2 same = tt
  refutes_paired no_branch n i j of others (p ∷ ps) st h good1 good2 same = absurd (omega arith)
  refutes_paired (branch rule rest) n i j of others [] st h good1 good2 same = absurd (omega arith)
  refutes_paired (branch rule rest) n i j of others (p ∷ ps) st h good1 good2 same =
      let f = place (formulas of) p.0 in let g = place (formulas others) p.1 in
      let both = first_none (under n (first_fault rule (paired i j f g st))) (first_paired (n + 1) rest i j (formulas of) (formulas others) ps st) h in
      let firsts = split_places (length (formulas of)) p.0 (map (λ (q : ℕ × ℕ). q.0) ps) good1 in
      let seconds = split_places (length (formulas others)) p.1 (map (λ (q : ℕ × ℕ). q.1) ps) good2 in (
        f,
        g,
        place_is (formulas of) p.0 firsts.0,
        place_is (formulas others) p.1 seconds.0,
        refutes rule (paired i j f g st) (under_none n (first_fault rule (paired i j f g st)) both.0),
        refutes_paired rest (n + 1) i j of others ps st both.1 firsts.1 seconds.1 (omega arith),
      )

-- ---- and the other way round: what refutes has no fault

same_number : (n : ℕ) → (n == n) ≡ true
same_number n = grind (arith, nat_tests)

clash_passes : (x : ℕ) → clash_fault (member x) (member x) ≡ None
clash_passes x = ap (λ b. if b then None else Some NoClash) (same_number x)

open_passes : (of : Children) → EachWeighs of → open_fault (at_least (total_weight of) of) ≡ None
open_passes of weighs = λ i. if same_number (total_weight of) i && EachWeighs-to of weighs i then None else Some NotAll

above : (m n : ℕ) → m < n → nat_lt m n ≡ true
above m n h = grind (arith, nat_tests)

pick_passes : (k : ℕ) (of : Children) (cs : List ℕ) (n : ℕ) → good_places (length (formulas of)) cs ≡ true → total_weight of < k + picked_weight of cs → n ≡ length cs → pick_fault (at_least k of) cs n ≡ None
pick_passes k of cs n good few same = grind (arith, common_steps)

pair_passes : (k : ℕ) (of : Children) (l : ℕ) (others : Children) (ps : List (ℕ × ℕ)) (n : ℕ) → good_places (length (formulas of)) (map (λ p. p.0) ps) ≡ true → good_places (length (formulas others)) (map (λ p. p.1) ps) ≡ true → total_weight of + total_weight others < k + l + paired_weight of others ps → n ≡ length ps → pair_fault (at_least k of) (at_least l others) ps n ≡ None
pair_passes k of l others ps n good also few same = grind (arith, common_steps)

-- ---- good places from distinct ones

any_is : (c : ℕ) (cs : List ℕ) → AllByRecursion (λ y. nat_eq c y ≡ false) cs → list_any (λ d. d == c) cs ≡ false
any_is c [] h = refl
any_is c (d ∷ cs) h = grind (arith, common_steps, ℕ, nat_eq, nat_tests, (any_is c cs h.1))

good_more : (n c : ℕ) (cs : List ℕ) → c < n → AllByRecursion (λ y. nat_eq c y ≡ false) cs → good_places n cs ≡ true → good_places n (c ∷ cs) ≡ true
good_more n c cs h apart good = λ i. above c n h i && (not (any_is c cs apart i) && good i)

range_of : (fs : List Formula) (c : ℕ) (f : Formula) → slice_get fs c ≡ Some f → (c < length fs) × (place fs c ≡ f)
range_of [] c f h = absurd (cc)
range_of (g ∷ fs) zero f h = (omega arith, cc)
range_of (g ∷ fs) (suc c) f h = let rest = range_of fs c f h in (omega (arith, rest.0), rest.1)

picked_good : (branches : Branches) (side : Side) (i : ℕ) (of : Children) (cs : List ℕ) (st : State) → RefutesPicked branches side i of cs st → IsDistinct nat_eq cs → (good_places (length (formulas of)) cs ≡ true) × (branch_count branches ≡ length cs)
unfolding IsDistinct
picked_good no_branch side i of [] st h apart = (refl, refl)
picked_good no_branch side i of (c ∷ cs) st h apart = absurd h
picked_good (branch rule rest) side i of [] st h apart = absurd h
picked_good (branch rule rest) side i of (c ∷ cs) st h apart = grind (arith, common_steps, good_more, range_of, (picked_good rest side i of cs st h.3 apart.1))

paired_good : (branches : Branches) (i j : ℕ) (of others : Children) (ps : List (ℕ × ℕ)) (st : State) → RefutesPaired branches i j of others ps st → IsDistinct nat_eq (map (λ p. p.0) ps) → IsDistinct nat_eq (map (λ p. p.1) ps) → (good_places (length (formulas of)) (map (λ p. p.0) ps) ≡ true) × (good_places (length (formulas others)) (map (λ p. p.1) ps) ≡ true) × (branch_count branches ≡ length ps)
unfolding IsDistinct
paired_good no_branch i j of others [] st h apart also = (refl, refl, refl)
paired_good no_branch i j of others (p ∷ ps) st h apart also = absurd h
paired_good (branch rule rest) i j of others [] st h apart also = absurd h
paired_good (branch rule rest) i j of others (p ∷ ps) st h apart also = grind (arith, common_steps, good_more, range_of, (paired_good rest i j of others ps st h.5 apart.1 also.1))

mutual
  pub accepted : (rule : Rule) (st : State) → Refutes rule st → first_fault rule st ≡ None
  accepted (dead side i) st h =
      ap (λ o. at_item o (λ f. or_else (dead_fault f (absent_of side st)) None)) h.1 ∙ ap (λ (b : Bool). or_else (if b then Some NotDead else None) None) h.2
  accepted (clash i j) st h =
      (λ t. at_item (h.1 t) (λ f. at_item (h.2 t) (λ g. or_else (clash_fault f g) None))) ∙ ap (λ o. or_else o None) (clash_passes h.0)
  accepted (open_all side i rule) st h =
      ap (λ o. at_item o (λ f. or_else (open_fault f) (under 0 (first_fault rule (replaced side i (children_of f) st))))) h.1
      ∙ (λ t. or_else (open_passes h.0 h.2 t) (under 0 (accepted rule (replaced side i (formulas h.0) st) h.3 t)))
  accepted (pick side i cs branches) st h =
      let good = picked_good branches side i h.1 cs st h.5 h.3 in
      ap (λ o. at_item o (λ f. or_else (pick_fault f cs (branch_count branches)) (first_picked 0 branches side i (children_of f) cs st))) h.2
      ∙ (λ t. or_else (pick_passes h.0 h.1 cs (branch_count branches) good.0 h.4 good.1 t) (accepted_picked branches 0 side i h.1 cs st h.5 t))
  accepted (pair_up i j ps branches) st h =
      let good = paired_good branches i j h.1 h.4 ps st h.9 h.6 h.7 in
      (λ t. at_item (h.2 t) (λ f. at_item (h.5 t) (λ g. or_else (pair_fault f g ps (branch_count branches)) (first_paired 0 branches i j (children_of f) (children_of g) ps st))))
      ∙ (λ t. or_else (pair_passes h.0 h.1 h.3 h.4 ps (branch_count branches) good.0 good.1 h.8 good.2 t) (accepted_paired branches 0 i j h.1 h.4 ps st h.9 t))
  accepted (split x left right) st h =
      λ t. first_of (under 0 (accepted left (without Left x st) h.0 t)) (under 1 (accepted right (without Right x st) h.1 t))

  accepted_picked : (branches : Branches) (n : ℕ) (side : Side) (i : ℕ) (of : Children) (cs : List ℕ) (st : State) → RefutesPicked branches side i of cs st → first_picked n branches side i (formulas of) cs st ≡ None
  accepted_picked no_branch n side i of [] st h = refl
  accepted_picked no_branch n side i of (c ∷ cs) st h = refl
  accepted_picked (branch rule rest) n side i of [] st h = refl
  accepted_picked (branch rule rest) n side i of (c ∷ cs) st h =
      ap (λ f. first_of (under n (first_fault rule (replaced side i (f ∷ []) st))) (first_picked (n + 1) rest side i (formulas of) cs st)) (range_of (formulas of) c h.0 h.1).1
      ∙ (λ t. first_of (under n (accepted rule (replaced side i (h.0 ∷ []) st) h.2 t)) (accepted_picked rest (n + 1) side i of cs st h.3 t))

  accepted_paired : (branches : Branches) (n i j : ℕ) (of others : Children) (ps : List (ℕ × ℕ)) (st : State) → RefutesPaired branches i j of others ps st → first_paired n branches i j (formulas of) (formulas others) ps st ≡ None
  accepted_paired no_branch n i j of others [] st h = refl
  accepted_paired no_branch n i j of others (p ∷ ps) st h = refl
  accepted_paired (branch rule rest) n i j of others [] st h = refl
  accepted_paired (branch rule rest) n i j of others (p ∷ ps) st h =
      (λ t. first_of (under n (first_fault rule (paired i j ((range_of (formulas of) p.0 h.0 h.2).1 t) ((range_of (formulas others) p.1 h.1 h.3).1 t) st))) (first_paired (n + 1) rest i j (formulas of) (formulas others) ps st))
      ∙ (λ t. first_of (under n (accepted rule (paired i j h.0 h.1 st) h.4 t)) (accepted_paired rest (n + 1) i j of others ps st h.5 t))
