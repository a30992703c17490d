-- What a rule refutes can't be.
use Rattle.std.proofs.Common.{◌≡◌, ℕ, zero, suc, ◌+◌, ◌<◌, ◌≤◌, min, arith, refl, ap, ◌∙◌, sym, take, drop, true≢false, Bool, true, false, not, ◌&&◌, nat_eq, nat_lt, if◌then◌else◌, List, [], ◌∷◌, ◌++◌, map, remove, Some, slice_get}
use Rattle.std.specs.Ordering.{nat_cmp}
use Rattle.std.specs.Cmp.{nat_cmp_total}
use Rattle.std.specs.FinSet.{FinSet, empty, insert, contains, difference, contains-empty, contains-difference}
use Rattle.std.proofs.lemmas.Bool.Decides.{nat_tests}
use Rattle.volume_model.specs.Common.{Formula, Children, Members, at_least, no_child, child, sat, weight_held, total_weight, formulas, weight_at, EachWeighs, AreMembers, AreDisjoint, Meets}
use Rattle.volume_model.specs.Formula.{member}
use Rattle.volume_model.proofs.FormulaLaws.{sat_more, unheld, item, picked, unheld-sum, unheld-at, picked_le}
use Rattle.quorum_expr.specs.Common.{all_members}
use Rattle.quorum_expr.proofs.MemberSetLaws.{contains-all_members}
use Rattle.volume_model.proofs.Sets.{contains-put}
use Rattle.refutation.specs.declared.Side.{Side}
use Rattle.refutation.specs.declared.Side.TheVariants.{Left, Right}
use Rattle.refutation.specs.Common.{Rule, Branches, dead, clash, open_all, pick, pair_up, split, no_branch, branch}
use Rattle.quorum_checker.specs.Refutes.{State, items_of, absent_of, replaced, paired, without, picked_weight, paired_weight, Refutes, RefutesPicked, RefutesPaired, claim_state}
use Rattle.std.proofs.lemmas.Grind.{common_steps}

-- each of these holds
abbrev pub AllHold : List Formula → Members → Type 0
AllHold [] s = Unit {0}
AllHold (f ∷ fs) s = (sat f s ≡ true) × AllHold fs s

AllHold-at : (fs : List Formula) (s : Members) (i : ℕ) (f : Formula) → slice_get fs i ≡ Some f → AllHold fs s → sat f s ≡ true
AllHold-at [] s i f at all = cc
AllHold-at (g ∷ fs) s zero f at all = let same : g ≡ f = cc in ap (λ e. sat e s) (sym same) ∙ all.0
AllHold-at (g ∷ fs) s (suc i) f at all = AllHold-at fs s i f at all.1

AllHold-append : (fs gs : List Formula) (s : Members) → AllHold fs s → AllHold gs s → AllHold (fs ++ gs) s
AllHold-append [] gs s all more = more
AllHold-append (f ∷ fs) gs s all more = (all.0, AllHold-append fs gs s all.1 more)

AllHold-take : (n : ℕ) (fs : List Formula) (s : Members) → AllHold fs s → AllHold (take n fs) s
AllHold-take zero fs s all = tt
AllHold-take (suc n) [] s all = tt
AllHold-take (suc n) (f ∷ fs) s all = (all.0, AllHold-take n fs s all.1)

AllHold-drop : (n : ℕ) (fs : List Formula) (s : Members) → AllHold fs s → AllHold (drop n fs) s
AllHold-drop zero fs s all = all
AllHold-drop (suc n) [] s all = tt
AllHold-drop (suc n) (f ∷ fs) s all = AllHold-drop n fs s all.1

AllHold-replace : (i : ℕ) (fs gs : List Formula) (s : Members) → AllHold fs s → AllHold gs s → AllHold (remove fs i ++ gs) s
AllHold-replace i fs gs s all more = AllHold-append (remove fs i) gs s (AllHold-append (take i fs) (drop (suc i) fs) s (AllHold-take i fs s all) (AllHold-drop (suc i) fs s all)) more

weight_held_le : (of : Children) (s : Members) → weight_held of s ≤ total_weight of
weight_held_le of s = omega (arith, unheld-sum of s)

-- all children hold where what holds weighs as much as all
all_hold : (of : Children) (s : Members) → EachWeighs of → total_weight of ≤ weight_held of s → AllHold (formulas of) s
all_hold no_child s weighs all = tt
all_hold (child w f fs) s weighs all =
    elim (sat f s) as (λ b. sat f s ≡ b → (w + total_weight fs ≤ (if b then w else 0) + weight_held fs s) → (sat f s ≡ true) × AllHold (formulas fs) s) [
      | true ↦ λ e all. (e, all_hold fs s weighs.1 (omega arith))
      | false ↦ λ e all. absurd (omega (arith, weight_held_le fs s, weighs.0))
    ] refl all

-- two sets as a state asks for them
pub record Fits (st : State) (r w : Members) : Type 0 where
  pub left_members : AreMembers r
  pub right_members : AreMembers w
  pub apart : AreDisjoint r w
  pub left_clear : AreDisjoint r (contains st.absent_left)
  pub right_clear : AreDisjoint w (contains st.absent_right)
  pub left_holds : AllHold st.left r
  pub right_holds : AllHold st.right w

abbrev set_of : Side → Members → Members → Members
set_of Left r w = r
set_of Right r w = w

fits-holds : (side : Side) (st : State) (r w : Members) → Fits st r w → AllHold (items_of side st) (set_of side r w)
fits-holds Left st r w fits = fits.left_holds
fits-holds Right st r w fits = fits.right_holds

fits-members : (side : Side) (st : State) (r w : Members) → Fits st r w → AreMembers (set_of side r w)
fits-members Left st r w fits = fits.left_members
fits-members Right st r w fits = fits.right_members

fits-clear : (side : Side) (st : State) (r w : Members) → Fits st r w → AreDisjoint (set_of side r w) (contains (absent_of side st))
fits-clear Left st r w fits = fits.left_clear
fits-clear Right st r w fits = fits.right_clear

fits-replaced : (side : Side) (i : ℕ) (fs : List Formula) (st : State) (r w : Members) → Fits st r w → AllHold fs (set_of side r w) → Fits (replaced side i fs st) r w
fits-replaced Left i fs st r w fits more = grind (arith, common_steps, AllHold-replace)
fits-replaced Right i fs st r w fits more = grind (arith, common_steps, AllHold-replace)

fits-paired : (i j : ℕ) (f g : Formula) (st : State) (r w : Members) → Fits st r w → sat f r ≡ true → sat g w ≡ true → Fits (paired i j f g st) r w
fits-paired i j f g st r w fits hf hg = grind (arith, common_steps, AllHold-replace)

-- a set that lacks x is clear of x too
clear-insert : (s : Members) (a : FinSet nat_cmp) (x : ℕ) → s x ≡ false → AreDisjoint s (contains a) → AreDisjoint s (contains (insert a x))
clear-insert s a x lacks clear y in_s in_a = grind (arith, common_steps, nat_eq, nat_tests, contains-put)

fits-without_left : (x : ℕ) (st : State) (r w : Members) → Fits st r w → r x ≡ false → Fits (without Left x st) r w
fits-without_left x st r w fits lacks = grind (arith, common_steps, (clear-insert r st.absent_left x lacks fits.left_clear))

fits-without_right : (x : ℕ) (st : State) (r w : Members) → Fits st r w → w x ≡ false → Fits (without Right x st) r w
fits-without_right x st r w fits lacks = grind (arith, common_steps, (clear-insert w st.absent_right x lacks fits.right_clear))

-- a set of members that is clear of others lies in the members without these
within_others : (s : Members) (a : FinSet nat_cmp) → AreMembers s → AreDisjoint s (contains a) → (x : ℕ) → s x ≡ true → contains (difference all_members a) x ≡ true
within_others s a members clear x h =
    contains-difference nat_cmp_total all_members a x ∙ ap (λ b. b && not (contains a x)) (contains-all_members x)
    ∙ test (nat_lt x 64) (contains a x) (below x (members x h)) (λ e. clear x h e)
  where
    below : (x : ℕ) → x < 64 → nat_lt x 64 ≡ true
    below x h = grind (arith, nat_tests)

    test : (b c : Bool) → b ≡ true → (c ≡ true → ⊥) → (b && not c) ≡ true
    test true true e clear_of = absurd (clear_of refl)
    test true false e clear_of = refl
    test false c e clear_of = absurd (true≢false (sym e))

held_of : (k : ℕ) (of : Children) (s : Members) → sat (at_least k of) s ≡ true → k ≤ weight_held of s
held_of k of s h = grind (arith, nat_tests)

mutual
  -- no two sets fit a state that a rule refutes
  pub none_fit : (rule : Rule) (st : State) → Refutes rule st → (r w : Members) → Fits st r w → ⊥
  none_fit (dead side i) st h r w fits =
      let holds = AllHold-at (items_of side st) (set_of side r w) i h.0 h.1 (fits-holds side st r w fits) in
      let more = sat_more h.0 (set_of side r w) (contains (difference all_members (absent_of side st)))
      (within_others (set_of side r w) (absent_of side st) (fits-members side st r w fits) (fits-clear side st r w fits)) holds in
      let no = h.2 in cc
  none_fit (clash i j) st h r w fits =
      fits.apart h.0 (AllHold-at st.left r i (member h.0) h.1 fits.left_holds) (AllHold-at st.right w j (member h.0) h.2 fits.right_holds)
  none_fit (open_all side i rule) st h r w fits =
      let of = h.0 in let s = set_of side r w in
      let held = held_of (total_weight of) of s (AllHold-at (items_of side st) s i (at_least (total_weight of) of) h.1 (fits-holds side st r w fits)) in
      none_fit rule (replaced side i (formulas of) st) h.3 r w (fits-replaced side i (formulas of) st r w fits (all_hold of s h.2 held))
  none_fit (pick side i children branches) st h r w fits =
      let k = h.0 in let of = h.1 in let s = set_of side r w in
      let held = held_of k of s (AllHold-at (items_of side st) s i (at_least k of) h.2 (fits-holds side st r w fits)) in
      omega (arith, h.4, held, unheld-sum of s, picked_le children (unheld of s) h.3, none_picked branches side i of children st h.5 r w fits)
  none_fit (pair_up i j pairs branches) st h r w fits =
      let k = h.0 in let of = h.1 in let l = h.3 in let others = h.4 in
      let left = held_of k of r (AllHold-at st.left r i (at_least k of) h.2 fits.left_holds) in
      let right = held_of l others w (AllHold-at st.right w j (at_least l others) h.5 fits.right_holds) in
      omega (
        arith,
        h.8,
        left,
        right,
        unheld-sum of r,
        unheld-sum others w,
        picked_le (map (λ (p : ℕ × ℕ). p.0) pairs) (unheld of r) h.6,
        picked_le (map (λ (p : ℕ × ℕ). p.1) pairs) (unheld others w) h.7,
        none_paired branches i j of others pairs st h.9 r w fits,
      )
  none_fit (split x left right) st h r w fits =
      elim (r x) as (λ b. r x ≡ b → ⊥) [
        | true ↦ λ in_r. elim (w x) as (λ b. w x ≡ b → ⊥) [
          | true ↦ λ in_w. fits.apart x in_r in_w
          | false ↦ λ out. none_fit right (without Right x st) h.1 r w (fits-without_right x st r w fits out)
        ] refl
        | false ↦ λ out. none_fit left (without Left x st) h.0 r w (fits-without_left x st r w fits out)
      ] refl

  -- where each picked child's state is refuted, all of the picked weight is of children that don't hold
  none_picked : (branches : Branches) (side : Side) (i : ℕ) (of : Children) (cs : List ℕ) (st : State) → RefutesPicked branches side i of cs st → (r w : Members) → Fits st r w → picked_weight of cs ≤ picked (unheld of (set_of side r w)) cs
  none_picked no_branch side i of [] st h r w fits = omega arith
  none_picked no_branch side i of (c ∷ cs) st h r w fits = absurd h
  none_picked (branch rule rest) side i of [] st h r w fits = absurd h
  none_picked (branch rule rest) side i of (c ∷ cs) st h r w fits =
      let s = set_of side r w in
      let no : sat h.0 s ≡ false = elim (sat h.0 s) as (λ b. sat h.0 s ≡ b → b ≡ false) [
        | true ↦ λ e. absurd (none_fit rule (replaced side i (h.0 ∷ []) st) h.2 r w (fits-replaced side i (h.0 ∷ []) st r w fits (e, tt)))
        | false ↦ λ e. refl
      ] refl in
      omega (arith, unheld-at of s c h.0 h.1 no, none_picked rest side i of cs st h.3 r w fits)

  -- where each pair's state is refuted, all of the paired weight is of children that don't hold
  none_paired : (branches : Branches) (i j : ℕ) (of others : Children) (ps : List (ℕ × ℕ)) (st : State) → RefutesPaired branches i j of others ps st → (r w : Members) → Fits st r w → paired_weight of others ps ≤ picked (unheld of r) (map (λ p. p.0) ps) + picked (unheld others w) (map (λ p. p.1) ps)
  none_paired no_branch i j of others [] st h r w fits = omega arith
  none_paired no_branch i j of others (p ∷ ps) st h r w fits = absurd h
  none_paired (branch rule rest) i j of others [] st h r w fits = absurd h
  none_paired (branch rule rest) i j of others (p ∷ ps) st h r w fits =
      let f = h.0 in let g = h.1 in
      let one : min (weight_at of p.0) (weight_at others p.1) ≤ item (unheld of r) p.0 + item (unheld others w) p.1 =
      elim (sat f r) as (λ b. sat f r ≡ b → min (weight_at of p.0) (weight_at others p.1) ≤ item (unheld of r) p.0 + item (unheld others w) p.1) [
        | false ↦ λ no. omega (arith, unheld-at of r p.0 f h.2 no)
        | true ↦ λ yes. elim (sat g w) as (λ b. sat g w ≡ b → min (weight_at of p.0) (weight_at others p.1) ≤ item (unheld of r) p.0 + item (unheld others w) p.1) [
          | false ↦ λ no. omega (arith, unheld-at others w p.1 g h.3 no)
          | true ↦ λ too. absurd (none_fit rule (paired i j f g st) h.4 r w (fits-paired i j f g st r w fits yes too))
        ] refl
      ] refl in
      omega (arith, one, none_paired rest i j of others ps st h.5 r w fits)

-- a claim that a rule refutes: no two sets fit it, so the sets meet
pub meets : (rule : Rule) (left right : Formula) (clear : FinSet nat_cmp) → Refutes rule (claim_state left right clear) → Meets left right clear
meets rule left right clear h r w r_members w_members apart clear_of holds_left holds_right =
    none_fit rule (claim_state left right clear) h r w (record {
      left_members = r_members;
      right_members = w_members;
      apart = apart;
      left_clear = clear_of;
      right_clear = λ x in_w in_empty. let no : contains (empty {R = nat_cmp}) x ≡ false = contains-empty nat_cmp x in cc;
      left_holds = (holds_left, tt);
      right_holds = (holds_right, tt);
    })
