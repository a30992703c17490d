-- The steps from branch to branch.
use Rattle.std.proofs.Common.{◌≡◌, ◌≢◌, ℕ, ◌+◌, ◌<◌, ◌≤◌, List, [], ◌∷◌, length, get_or, drop, map, arith, ap, ◌∙◌, sym, subst, add-one, drop-cons, Option, Some, None, Ok, Err, OnOk, IfErr, true}
use Rattle.std.proofs.lemmas.List.{drop_all}
use Rattle.volume_model.specs.Common.{Formula}
use Rattle.refutation.specs.declared.Side.{Side}
use Rattle.refutation.specs.declared.Refutation.{Refutation}
use Rattle.refutation.specs.Common.{Rule, Branches, open_all, pick, pair_up, branches_of, branch_count, depth_of, rule_of}
use Rattle.refutation.proofs.Rules.{branches_step}
use Rattle.volume_model.specs.declared.fault.Fault.TheVariants.{NoMemory}
use Rattle.quorum_checker.specs.declared.fault.FaultAt.{FaultAt}
use Rattle.quorum_checker.specs.Refutes.{State, items_of, replaced, paired}
use Rattle.quorum_checker.specs.FirstFault.{here, place, children_of, first_of, under, open_fault, pick_fault, pair_fault, first_fault, first_picked, first_paired, good_places}
use Rattle.quorum_checker.specs.Outcome.{Outcome, inside_branch, Answers}
use Rattle.quorum_checker.proofs.Nodes.{split_places}
use Rattle.std.proofs.lemmas.Grind.{common_steps}

list_step : {P : Type 0} (xs : List P) (n : ℕ) (d : P) → n < length xs → drop n xs ≡ get_or xs n d ∷ drop (n + 1) xs
list_step xs n d h = drop-cons xs n d h ∙ ap (λ m. get_or xs n d ∷ drop m xs) (sym (add-one n))

-- of the branches from n on, the first and then the others
pub picked_step : {B : Type 0} (then : List (Refutation B)) (cs : List ℕ) (n : ℕ) (x : Refutation B) (side : Side) (i : ℕ) (of : List Formula) (st : State) → n < length then → x ≡ get_or then n x → n < length cs → first_picked n (branches_of (map rule_of (drop n then))) side i of (drop n cs) st ≡ first_of (under n (first_fault (rule_of x) (replaced side i (place of (get_or cs n 0) ∷ []) st))) (first_picked (n + 1) (branches_of (map rule_of (drop (n + 1) then))) side i of (drop (n + 1) cs) st)
picked_step then cs n x side i of st h is hc =
    (λ j. first_picked n (branches_of (branches_step then n x h is j)) side i of (list_step cs n 0 hc j) st)

pub paired_step : {B : Type 0} (then : List (Refutation B)) (ps : List (ℕ × ℕ)) (n : ℕ) (x : Refutation B) (p : ℕ × ℕ) (i j : ℕ) (of others : List Formula) (st : State) → n < length then → x ≡ get_or then n x → n < length ps → p ≡ get_or ps n (0, 0) → first_paired n (branches_of (map rule_of (drop n then))) i j of others (drop n ps) st ≡ first_of (under n (first_fault (rule_of x) (paired i j (place of p.0) (place others p.1) st))) (first_paired (n + 1) (branches_of (map rule_of (drop (n + 1) then))) i j of others (drop (n + 1) ps) st)
paired_step then ps n x p i j of others st h is hp at =
    (λ t. first_paired n (branches_of (branches_step then n x h is t)) i j of others ((list_step ps n (0, 0) hp ∙ ap (λ q. q ∷ drop (n + 1) ps) (sym at)) t) st)

-- where a branch has no fault, the others decide
pub went_on : (r : Outcome) (found : Option FaultAt) (d n : ℕ) (rest : Option FaultAt) (u : Unit {0}) → Answers r found d → inside_branch n r ≡ Ok u → first_of (under n found) rest ≡ rest
went_on (Ok u) found d n rest v h is = ap (λ f. first_of (under n f) rest) h
went_on (Err e) found d n rest v h is = cc

-- where a branch has a fault, it is the first
pub stopped : (r : Outcome) (found : Option FaultAt) (d n : ℕ) (rest : Option FaultAt) (e : FaultAt) → Answers r found d → inside_branch n r ≡ Err e → (e.fault ≢ NoMemory → first_of (under n found) rest ≡ Some e) × (length e.path < 1 + d)
stopped (Ok u) found d n rest e h is = absurd (cc)
stopped (Err e') found d n rest e h is = grind (arith, common_steps)

-- the numbers are good, and so is the one at hand
pub places_step : (m : ℕ) (cs : List ℕ) (n : ℕ) → n < length cs → good_places m (drop n cs) ≡ true → (get_or cs n 0 < m) × (good_places m (drop (n + 1) cs) ≡ true)
places_step m cs n h good = split_places m (get_or cs n 0) (drop (n + 1) cs) (ap (good_places m) (sym (list_step cs n 0 h)) ∙ good)

-- ---- a turn of the loops

pub path_bound : (r : Outcome) (found : Option FaultAt) (d : ℕ) (e : FaultAt) → Answers r found d → r ≡ Err e → length e.path < d
path_bound (Ok u) found d e h is = absurd (cc)
path_bound (Err e') found d e h is = let same : e' ≡ e = cc in omega (arith, h.1, ap (λ x. length x.path) same)

pub pick_stops : {B : Type 0} (then : List (Refutation B)) (cs : List ℕ) (n : ℕ) (x : Refutation B) (side : Side) (i : ℕ) (of : List Formula) (st st' : State) (whole : Option FaultAt) (r : Outcome) (e : FaultAt) (d : ℕ) →
    n < length then → x ≡ get_or then n x → n < length cs
    → whole ≡ first_picked n (branches_of (map rule_of (drop n then))) side i of (drop n cs) st
    → st' ≡ replaced side i (place of (get_or cs n 0) ∷ []) st
    → Answers r (first_fault (rule_of x) st') (depth_of (rule_of x)) → inside_branch n r ≡ Err e → depth_of (rule_of x) ≤ d
    → (e.fault ≢ NoMemory → whole ≡ Some e) × (length e.path < 1 + d)
pick_stops then cs n x side i of st st' whole r e d h is hc left same ans err deep =
    let found : Answers r (first_fault (rule_of x) (replaced side i (place of (get_or cs n 0) ∷ []) st)) (depth_of (rule_of x)) = subst (λ (s : State). Answers r (first_fault (rule_of x) s) (depth_of (rule_of x))) same ans in
    let stop = stopped r _ (depth_of (rule_of x)) n (first_picked (n + 1) (branches_of (map rule_of (drop (n + 1) then))) side i of (drop (n + 1) cs) st) e found err in
    (λ no. left ∙ picked_step then cs n x side i of st h is hc ∙ stop.0 no, omega (arith, stop.1, deep))

pub pick_goes_on : {B : Type 0} (then : List (Refutation B)) (cs : List ℕ) (n : ℕ) (x : Refutation B) (side : Side) (i : ℕ) (of : List Formula) (st st' : State) (whole : Option FaultAt) (r : Outcome) (u : Unit {0}) →
    n < length then → x ≡ get_or then n x → n < length cs
    → whole ≡ first_picked n (branches_of (map rule_of (drop n then))) side i of (drop n cs) st
    → st' ≡ replaced side i (place of (get_or cs n 0) ∷ []) st
    → Answers r (first_fault (rule_of x) st') (depth_of (rule_of x)) → inside_branch n r ≡ Ok u
    → whole ≡ first_picked (n + 1) (branches_of (map rule_of (drop (n + 1) then))) side i of (drop (n + 1) cs) st
pick_goes_on then cs n x side i of st st' whole r u h is hc left same ans ok =
    let found : Answers r (first_fault (rule_of x) (replaced side i (place of (get_or cs n 0) ∷ []) st)) (depth_of (rule_of x)) = subst (λ (s : State). Answers r (first_fault (rule_of x) s) (depth_of (rule_of x))) same ans in
    left ∙ picked_step then cs n x side i of st h is hc ∙ went_on r _ (depth_of (rule_of x)) n _ u found ok

pub picked_done : {B : Type 0} (then : List (Refutation B)) (cs : List ℕ) (n : ℕ) (side : Side) (i : ℕ) (of : List Formula) (st : State) → length then ≤ n → first_picked n (branches_of (map rule_of (drop n then))) side i of cs st ≡ None
picked_done then cs n side i of st h = ap (λ ts. first_picked n (branches_of (map rule_of ts)) side i of cs st) (drop_all n then h)

pub pair_stops : {B : Type 0} (then : List (Refutation B)) (ps : List (ℕ × ℕ)) (n : ℕ) (x : Refutation B) (p : ℕ × ℕ) (i j : ℕ) (of others : List Formula) (st st' : State) (whole : Option FaultAt) (r : Outcome) (e : FaultAt) (d : ℕ) →
    n < length then → x ≡ get_or then n x → n < length ps → p ≡ get_or ps n (0, 0)
    → whole ≡ first_paired n (branches_of (map rule_of (drop n then))) i j of others (drop n ps) st
    → st' ≡ paired i j (place of p.0) (place others p.1) st
    → Answers r (first_fault (rule_of x) st') (depth_of (rule_of x)) → inside_branch n r ≡ Err e → depth_of (rule_of x) ≤ d
    → (e.fault ≢ NoMemory → whole ≡ Some e) × (length e.path < 1 + d)
pair_stops then ps n x p i j of others st st' whole r e d h is hc at left same ans err deep =
    let found : Answers r (first_fault (rule_of x) (paired i j (place of p.0) (place others p.1) st)) (depth_of (rule_of x)) = subst (λ (s : State). Answers r (first_fault (rule_of x) s) (depth_of (rule_of x))) same ans in
    let stop = stopped r _ (depth_of (rule_of x)) n (first_paired (n + 1) (branches_of (map rule_of (drop (n + 1) then))) i j of others (drop (n + 1) ps) st) e found err in
    (λ no. left ∙ paired_step then ps n x p i j of others st h is hc at ∙ stop.0 no, omega (arith, stop.1, deep))

pub pair_goes_on : {B : Type 0} (then : List (Refutation B)) (ps : List (ℕ × ℕ)) (n : ℕ) (x : Refutation B) (p : ℕ × ℕ) (i j : ℕ) (of others : List Formula) (st st' : State) (whole : Option FaultAt) (r : Outcome) (u : Unit {0}) →
    n < length then → x ≡ get_or then n x → n < length ps → p ≡ get_or ps n (0, 0)
    → whole ≡ first_paired n (branches_of (map rule_of (drop n then))) i j of others (drop n ps) st
    → st' ≡ paired i j (place of p.0) (place others p.1) st
    → Answers r (first_fault (rule_of x) st') (depth_of (rule_of x)) → inside_branch n r ≡ Ok u
    → whole ≡ first_paired (n + 1) (branches_of (map rule_of (drop (n + 1) then))) i j of others (drop (n + 1) ps) st
pair_goes_on then ps n x p i j of others st st' whole r u h is hc at left same ans ok =
    let found : Answers r (first_fault (rule_of x) (paired i j (place of p.0) (place others p.1) st)) (depth_of (rule_of x)) = subst (λ (s : State). Answers r (first_fault (rule_of x) s) (depth_of (rule_of x))) same ans in
    left ∙ paired_step then ps n x p i j of others st h is hc at ∙ went_on r _ (depth_of (rule_of x)) n _ u found ok

pub paired_done : {B : Type 0} (then : List (Refutation B)) (ps : List (ℕ × ℕ)) (n i j : ℕ) (of others : List Formula) (st : State) → length then ≤ n → first_paired n (branches_of (map rule_of (drop n then))) i j of others ps st ≡ None
paired_done then ps n i j of others st h = ap (λ ts. first_paired n (branches_of (map rule_of ts)) i j of others ps st) (drop_all n then h)

pub firsts_step : (m : ℕ) (ps : List (ℕ × ℕ)) (n : ℕ) (p : ℕ × ℕ) → n < length ps → p ≡ get_or ps n (0, 0) → good_places m (map (λ q. q.0) (drop n ps)) ≡ true → (p.0 < m) × (good_places m (map (λ q. q.0) (drop (n + 1) ps)) ≡ true)
firsts_step m ps n p h is good = split_places m p.0 (map (λ (q : ℕ × ℕ). q.0) (drop (n + 1) ps)) (ap (λ qs. good_places m (map (λ (q : ℕ × ℕ). q.0) qs)) (sym (list_step ps n (0, 0) h ∙ ap (λ q. q ∷ drop (n + 1) ps) (sym is))) ∙ good)

pub seconds_step : (m : ℕ) (ps : List (ℕ × ℕ)) (n : ℕ) (p : ℕ × ℕ) → n < length ps → p ≡ get_or ps n (0, 0) → good_places m (map (λ q. q.1) (drop n ps)) ≡ true → (p.1 < m) × (good_places m (map (λ q. q.1) (drop (n + 1) ps)) ≡ true)
seconds_step m ps n p h is good = split_places m p.1 (map (λ (q : ℕ × ℕ). q.1) (drop (n + 1) ps)) (ap (λ qs. good_places m (map (λ (q : ℕ × ℕ). q.1) qs)) (sym (list_step ps n (0, 0) h ∙ ap (λ q. q ∷ drop (n + 1) ps) (sym is))) ∙ good)

-- ---- a rule with one branch

pub kept_on : (r : Outcome) (n : ℕ) (u : Unit {0}) (P : Type 0) → OnOk r P → inside_branch n r ≡ Ok u → P
kept_on (Ok v) n u P h is = h
kept_on (Err e) n u P h is = absurd (cc)

-- the last item is put back where no branch has a fault
pub ends : (r : Outcome) (found : Option FaultAt) (d : ℕ) → found ≡ None → IfErr r (λ e. e ≡ here NoMemory) → Answers r found (1 + d)
ends (Ok u) found d none h = none
ends (Err e) found d none h = grind (arith, common_steps)

-- what a check that changes nothing keeps
pub unchanged : (r : Outcome) (P : Type 0) → P → OnOk r P
unchanged (Ok u) P h = h
unchanged (Err e) P h = tt
