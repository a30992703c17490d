-- Reports under older lineages.
use Rattle.std.proofs.Common.{◌≡◌, ℕ, zero, suc, ◌<◌, ◌≤◌, Bool, true, ◌&&◌, nat_lt, nat_le, List, [], ◌∷◌, ◌++◌, map, refl, ap₂, inl, inr, slice_set}
use Rattle.std.proofs.lemmas.Bool.{cases_Bool, and_parts, ltb-true, lt-ltb}
use Rattle.volume_model.specs.Common.{every, Contents, last_epoch, newest, From, senders, contents_of, ClientGroup, group_of, newly_at, no_group, with_places, later_group, reread_group, is_later}
use Rattle.volume_model.specs.Message as model
use Rattle.volume_model.specs.Node.{with_first}
use Rattle.writer_core.specs.GroupStates.{counted_group, counted_in, reported_group, reported_in}
use Rattle.recovery.specs.Cuts.{is_older, are_older}
use Rattle.recovery.specs.Reported.{reports_in}

and_true : (a b : Bool) → a ≡ true → b ≡ true → (a && b) ≡ true
and_true a b e f = ap₂ (λ x y. x && y) e f

every-append : {A : Type 0} (test : A → Bool) (xs : List A) (x : A) → every test xs ≡ true → test x ≡ true → every test (xs ++ x ∷ []) ≡ true
every-append test [] x h e = and_true (test x) true e refl
every-append test (y ∷ xs) x h e =
    let (a, b) = and_parts (test y) (every test xs) h in
    and_true (test y) (every test (xs ++ x ∷ [])) a (every-append test xs x b e)

-- one group in its place
pub older-set : (volume : ℕ) (groups : List ClientGroup) (i : ℕ) (g : ClientGroup) → are_older volume groups ≡ true → is_older volume g ≡ true → are_older volume (slice_set groups i g) ≡ true
older-set volume [] i g h e = refl
older-set volume (x ∷ groups) zero g h e = and_true _ _ e (and_parts (is_older volume x) (are_older volume groups) h).1
older-set volume (x ∷ groups) (suc i) g h e =
    let (a, b) = and_parts (is_older volume x) (are_older volume groups) h in
    and_true _ _ a (older-set volume groups i g b e)

older-at : (volume : ℕ) (groups : List ClientGroup) (i : ℕ) → are_older volume groups ≡ true → is_older volume (group_of groups i) ≡ true
older-at volume [] i h = refl
older-at volume (x ∷ groups) zero h = (and_parts (is_older volume x) (are_older volume groups) h).0
older-at volume (x ∷ groups) (suc i) h = older-at volume groups i (and_parts (is_older volume x) (are_older volume groups) h).1

-- an acknowledgement counted
pub older-counted : (volume : ℕ) (groups : List ClientGroup) (i sender reached : ℕ) → are_older volume groups ≡ true → are_older volume (counted_in groups i sender reached) ≡ true
older-counted volume groups i sender reached h = older-set volume groups i (counted_group (group_of groups i) sender reached) h (older-at volume groups i h)

-- a report kept
pub older-reported : (volume : ℕ) (groups : List ClientGroup) (i : ℕ) (report : From) → are_older volume groups ≡ true → last_epoch report.contents.lineage < volume → are_older volume (reported_in groups i report) ≡ true
older-reported volume groups i report h less =
    let old : is_older volume (group_of groups i) ≡ true = older-at volume groups i h in
    older-set volume groups i (reported_group (group_of groups i) report) h (first (group_of groups i).reports old)
  where
    test : From → Bool
    test r = nat_lt (last_epoch r.contents.lineage) volume

    first : (reports : List From) → every test reports ≡ true → every test (with_first report reports) ≡ true
    first reports e = elim (cases_Bool (senders reports report.sender)) [
      | inl there ↦ rw there e
      | inr new ↦ rw new (every-append test reports report e (lt-ltb (last_epoch report.contents.lineage) volume less))
    ]

-- groups that are found, with no report
pub older-new : (volume : ℕ) (places : List model.Place) → are_older volume (map newly_at places) ≡ true
older-new volume [] = refl
older-new volume (p ∷ places) = older-new volume places

older-with_places : (volume : ℕ) (move : ClientGroup → model.Place → ClientGroup) → ((g : ClientGroup) (p : model.Place) → is_older volume g ≡ true → is_older volume (move g p) ≡ true)
    → (groups : List ClientGroup) (places : List model.Place) → are_older volume groups ≡ true → are_older volume (with_places move groups places) ≡ true
older-with_places volume move on [] [] h = h
older-with_places volume move on (g ∷ groups) [] h = h
older-with_places volume move on [] (p ∷ places) h = and_true _ _ (on no_group p refl) (older-with_places volume move on [] places refl)
older-with_places volume move on (g ∷ groups) (p ∷ places) h =
    let (a, b) = and_parts (is_older volume g) (are_older volume groups) h in
    and_true _ _ (on g p a) (older-with_places volume move on groups places b)

pub older-later : (volume : ℕ) (groups : List ClientGroup) (places : List model.Place) → are_older volume groups ≡ true → are_older volume (with_places later_group groups places) ≡ true
older-later volume groups places h = older-with_places volume later_group (λ g p e. elim (cases_Bool (is_later g.place p)) [ inl t ↦ rw t e | inr t ↦ rw t e ]) groups places h

pub older-reread : (volume : ℕ) (groups : List ClientGroup) (places : List model.Place) → are_older volume groups ≡ true → are_older volume (with_places reread_group groups places) ≡ true
older-reread volume groups places h = older-with_places volume reread_group (λ g p e. elim (cases_Bool (is_later g.place p)) [ inl t ↦ rw t refl | inr t ↦ rw t e ]) groups places h

-- ---- the newest of older lineages is older

older-contents : (volume : ℕ) (reports : List From) (more : List Contents) → 1 ≤ volume → every (λ (r : From). nat_lt (last_epoch r.contents.lineage) volume) reports ≡ true → last_epoch (newest more) < volume → last_epoch (newest (contents_of reports ++ more)) < volume
older-contents volume [] more some h less = less
older-contents volume (r ∷ reports) more some h less =
    let (a, b) = and_parts (nat_lt (last_epoch r.contents.lineage) volume) _ h in
    let rest = newest (contents_of reports ++ more) in
    let inner : last_epoch rest < volume = older-contents volume reports more some b less in
    elim (cases_Bool (nat_le (last_epoch rest) (last_epoch r.contents.lineage))) [
      | inl e ↦ rw e (ltb-true (last_epoch r.contents.lineage) volume a)
      | inr e ↦ rw e inner
    ]

pub older-newest : (volume : ℕ) (groups : List ClientGroup) → 1 ≤ volume → are_older volume groups ≡ true → last_epoch (newest (reports_in groups)) < volume
older-newest volume [] some h = some
older-newest volume (g ∷ groups) some h =
    let (a, b) = and_parts (is_older volume g) (are_older volume groups) h in
    older-contents volume g.reports (reports_in groups) some a (older-newest volume groups some b)
