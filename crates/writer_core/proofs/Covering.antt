-- The front of a log that the points of its groups cover.
use Rattle.std.proofs.Common.{◌≡◌, ℕ, ◌+◌, ◌<◌, ◌≤◌, Bool, true, false, ◌&&◌, nat_le, List, [], ◌∷◌, map, length, take, drop, get_or, if◌then◌else◌, refl, sym, ap, ◌∙◌, subst, inl, inr, arith, drop-cons, add-one, ◌==◌}
use Rattle.std.proofs.Math.Path.{fun_ext}
use Rattle.std.proofs.lemmas.List.{take-append-drop, take_all}
use Rattle.std.proofs.lemmas.Bool.{cases_Bool, and_parts, and_from, eq-eqb, le-leb, lt-leb, leb-true}
use Rattle.std.proofs.lemmas.Bool.Decides.{nat_tests}
use Rattle.volume_model.specs.Common.{every, added, Redo, last_lsn, last_of_group, complete_of, consistency_point_below, last_of_group_below}
use Rattle.redo_record.specs.declared.shared_record.SharedRecord.{SharedRecord}
use Rattle.redo_record.specs.Common.{shared_redo}
use Rattle.writer_core.specs.Logs.{log_of, is_growing}
use Rattle.writer_core.specs.DurabilityTracker.{is_covered, Covers, CoversNone, CoversPrefix, CoversLog}
use Rattle.writer_core.specs.declared.durability.DurabilityTracker.{DurabilityTracker}
use Rattle.writer_core.proofs.Below.{and_false}
use Rattle.writer_core.proofs.Finding.{above}
use Rattle.writer_core.proofs.Growing.{both}
use Rattle.writer_core.proofs.Joined.{log_of-append}
use Rattle.writer_core.proofs.Logs.{log_of-more}
use Rattle.std.proofs.lemmas.Grind.{common_steps}

-- ---- a front, and what comes behind it

split : (records : List SharedRecord) (n : ℕ) → log_of records ≡ added (map shared_redo (drop n records)) (log_of (take n records))
split records n = grind (arith, common_steps, (take-append-drop n records), (log_of-append (take n records) (drop n records)))

-- ---- all records are covered

complete_of-durability : (points : ℕ → ℕ) (log : List Redo) → every (is_covered points) log ≡ true → complete_of points log ≡ last_lsn log
complete_of-durability points [] h = refl
complete_of-durability points (r ∷ older) h =
    let parts : (is_covered points r ≡ true) × (every (is_covered points) older ≡ true) = and_parts _ _ h in
    grind (arith, common_steps, eq-eqb, and_from, (complete_of-durability points older parts.1))

-- a greater bound than the last number finds no other consistency point
consistency_point_below-whole : (n : ℕ) (log : List Redo) → is_growing log ≡ true → last_lsn log ≤ n → consistency_point_below n log ≡ consistency_point_below (last_lsn log) log
consistency_point_below-whole n [] h le = refl
consistency_point_below-whole n (r ∷ older) h le =
    let (less, rest) = both (last_lsn older) r.lsn (is_growing older) h in
    let here : nat_le r.lsn n ≡ true = le-leb r.lsn n le in
    let self : nat_le r.lsn r.lsn ≡ true = le-leb r.lsn r.lsn (omega arith) in
    let inner : consistency_point_below n older ≡ consistency_point_below r.lsn older = consistency_point_below-whole n older rest (omega arith) ∙ sym (consistency_point_below-whole r.lsn older rest (omega arith)) in
    rw (here, self) (ap (λ x. if r.point && true then r.lsn else x) inner)

-- ---- one record isn't

-- behind a record that isn't covered the complete point stays
complete_of-stuck : (points : ℕ → ℕ) (xs : List SharedRecord) (kept : List Redo) → is_growing (added (map shared_redo xs) kept) ≡ true → complete_of points kept < last_lsn kept → complete_of points (added (map shared_redo xs) kept) ≡ complete_of points kept
complete_of-stuck points [] kept h less = refl
complete_of-stuck points (x ∷ xs) kept h less =
    let more : last_lsn kept < (shared_redo x).lsn = (both (last_lsn kept) (shared_redo x).lsn (is_growing kept) (above xs (shared_redo x ∷ kept) h).0).0 in
    let apart : (complete_of points kept == last_lsn kept) ≡ false = grind (arith, nat_tests) in
    let step : complete_of points (shared_redo x ∷ kept) ≡ complete_of points kept = rw apart refl in
    complete_of-stuck points xs (shared_redo x ∷ kept) h (omega arith) ∙ step

-- later records have greater numbers than the bound
consistency_point_below-later : (n : ℕ) (xs : List SharedRecord) (kept : List Redo) → is_growing (added (map shared_redo xs) kept) ≡ true → n ≤ last_lsn kept → consistency_point_below n (added (map shared_redo xs) kept) ≡ consistency_point_below n kept
consistency_point_below-later n [] kept h le = refl
consistency_point_below-later n (x ∷ xs) kept h le =
    let more : last_lsn kept < (shared_redo x).lsn = (both (last_lsn kept) (shared_redo x).lsn (is_growing kept) (above xs (shared_redo x ∷ kept) h).0).0 in
    let later : nat_le (shared_redo x).lsn n ≡ false = lt-leb (shared_redo x).lsn n (omega arith) in
    let step : consistency_point_below n (shared_redo x ∷ kept) ≡ consistency_point_below n kept = ap (λ b. if b then (shared_redo x).lsn else consistency_point_below n kept) (ap (λ b. (shared_redo x).point && b) later ∙ and_false (shared_redo x).point) in
    consistency_point_below-later n xs (shared_redo x ∷ kept) h (omega arith) ∙ step

-- ---- the last numbers of groups

consistency_point_below-le : (n : ℕ) (log : List Redo) → consistency_point_below n log ≤ n
consistency_point_below-le n [] = omega arith
consistency_point_below-le n (r ∷ older) = grind (arith, common_steps, cases_Bool, leb-true, and_parts, (consistency_point_below-le n older))

-- all records are at most the bound
last_of_group_below-whole : (group n : ℕ) (log : List Redo) → is_growing log ≡ true → last_lsn log ≤ n → last_of_group_below group n log ≡ last_of_group group log
last_of_group_below-whole group n [] h le = refl
last_of_group_below-whole group n (r ∷ older) h le =
    let (less, rest) = both (last_lsn older) r.lsn (is_growing older) h in
    let here : nat_le r.lsn n ≡ true = le-leb r.lsn n le in
    let inner : last_of_group_below group n older ≡ last_of_group group older = last_of_group_below-whole group n older rest (omega arith) in
    elim (cases_Bool (r.group == group)) [ inl e ↦ rw (e, here) refl | inr e ↦ rw e inner ]

-- a record above the bound
last_of_group_below-above : (group n : ℕ) (r : Redo) (older : List Redo) → n < r.lsn → last_of_group_below group n (r ∷ older) ≡ last_of_group_below group n older
last_of_group_below-above group n r older more = grind (arith, common_steps)

-- later records have greater numbers than the bound
last_of_group_below-later : (group n : ℕ) (xs : List SharedRecord) (kept : List Redo) → is_growing (added (map shared_redo xs) kept) ≡ true → n ≤ last_lsn kept → last_of_group_below group n (added (map shared_redo xs) kept) ≡ last_of_group_below group n kept
last_of_group_below-later group n [] kept h le = refl
last_of_group_below-later group n (x ∷ xs) kept h le =
    let more : last_lsn kept < (shared_redo x).lsn = (both (last_lsn kept) (shared_redo x).lsn (is_growing kept) (above xs (shared_redo x ∷ kept) h).0).0 in
    last_of_group_below-later group n xs (shared_redo x ∷ kept) h (omega arith) ∙ last_of_group_below-above group n (shared_redo x) kept (omega arith)

-- ---- what is kept of a front

module _ (points : ℕ → ℕ) (records : List SharedRecord) (growing : is_growing (log_of records) ≡ true) (old : DurabilityTracker) (front : CoversPrefix old points records) where
  abbrev kept : List Redo
  kept = log_of (take old.records records)

  grown : is_growing (added (map shared_redo (drop old.records records)) kept) ≡ true
  grown = subst (λ log. is_growing log ≡ true) (split records old.records) growing

  kept_grows : is_growing kept ≡ true
  kept_grows = (above (drop old.records records) kept grown).0

  next-kept : (p : SharedRecord) (r : Redo) → old.records < length records → p ≡ get_or records old.records p → r ≡ shared_redo p → log_of (take (old.records + 1) records) ≡ r ∷ kept
  next-kept p r within is shows = log_of-more records old.records p within ∙ ap (λ x. shared_redo x ∷ kept) (sym is) ∙ ap (λ s. s ∷ kept) (sym shows)

  durable-le : old.durable ≤ last_lsn kept
  durable-le = let le : consistency_point_below old.complete kept ≤ old.complete = consistency_point_below-le old.complete kept in omega (arith, le, front.durable, front.complete)

  -- what is kept up to the last consistency point, behind a record that is none
  stays-durable : (r : Redo) (group : ℕ) → group < 16 → last_lsn kept < r.lsn → get_or old.durable_lasts group 0 ≡ last_of_group_below group old.durable (r ∷ kept)
  stays-durable r group h link = grind (arith, common_steps, kept, durable-le, last_of_group_below-above)

  -- one record more is covered
  pub covers-more : (new : DurabilityTracker) (p : SharedRecord) (r : Redo) → old.records < length records → p ≡ get_or records old.records p → r ≡ shared_redo p → r.group < 16 → r.lsn ≤ points r.group → Covers old new r → CoversPrefix new points records
  covers-more new p r within is shows small reached covers =
      let one : log_of (take (old.records + 1) records) ≡ r ∷ kept = next-kept p r within is shows in
      let next : is_growing (r ∷ kept) ≡ true = subst (λ log. is_growing log ≡ true) one (more-grows (old.records + 1)) in
      let link : last_lsn kept < r.lsn = (both (last_lsn kept) r.lsn (is_growing kept) next).0 in
      let bound : consistency_point_below r.lsn kept ≡ old.durable = consistency_point_below-whole r.lsn kept kept_grows (omega arith) ∙ sym (front.durable ∙ ap (λ n. consistency_point_below n kept) front.complete) in
      grind (arith, common_steps, and_from, last_of_group_below-whole, kept, stays-durable)
    where
      more-grows : (n : ℕ) → is_growing (log_of (take n records)) ≡ true
      more-grows n = (above (drop n records) (log_of (take n records)) (subst (λ log. is_growing log ≡ true) (split records n) growing)).0

      last : (point : Bool) → nat_le r.lsn r.lsn ≡ true → consistency_point_below r.lsn kept ≡ old.durable → (if point && nat_le r.lsn r.lsn then r.lsn else consistency_point_below r.lsn kept) ≡ (if point then r.lsn else old.durable)
      last true self bound = rw self refl
      last false self bound = bound

      durable_next : (point : Bool) (group : ℕ) → get_or new.last_lsns group 0 ≡ last_of_group_below group r.lsn (r ∷ kept) → get_or old.durable_lasts group 0 ≡ last_of_group_below group old.durable (r ∷ kept)
          → get_or (if point then new.last_lsns else old.durable_lasts) group 0 ≡ last_of_group_below group (if point then r.lsn else old.durable) (r ∷ kept)
      durable_next true group now before = now
      durable_next false group now before = before

  -- all records are covered
  pub covers-all : length records ≤ old.records → CoversLog old points records
  covers-all end = grind (arith, common_steps, take_all, complete_of-durability)

  -- the next record isn't covered
  pub covers-up-to : (p : SharedRecord) (r : Redo) → old.records < length records → p ≡ get_or records old.records p → r ≡ shared_redo p → points r.group < r.lsn → CoversLog old points records
  covers-up-to p r within is shows short = grind (arith, common_steps, lt-leb, drop-cons, add-one, kept, split, both, above, complete_of-durability, and_false, complete_of-stuck, durable-le, consistency_point_below-later, grown, last_of_group_below-later)

-- a log of no record
pub covers-none : (durability : DurabilityTracker) (points : ℕ → ℕ) (records : List SharedRecord) → CoversNone durability → records ≡ [] → CoversLog durability points records
covers-none durability points records none empty = subst (CoversLog durability points) (sym empty) (covers-all points [] refl durability (none points []) (omega arith))

-- ---- points that rise, and logs that grow

every-durability : (points points' : ℕ → ℕ) → ((group : ℕ) → points group ≤ points' group) → (log : List Redo) → every (is_covered points) log ≡ true → every (is_covered points') log ≡ true
every-durability points points' up [] h = refl
every-durability points points' up (r ∷ older) h =
    let parts : (is_covered points r ≡ true) × (every (is_covered points) older ≡ true) = and_parts _ _ h in
    let reached : r.lsn ≤ points r.group = leb-true r.lsn (points r.group) parts.0 in
    and_from _ _ (le-leb r.lsn (points' r.group) (omega arith)) (every-durability points points' up older parts.1)

-- points have risen
pub covers-raised : (durability : DurabilityTracker) (points points' : ℕ → ℕ) (records : List SharedRecord) → ((group : ℕ) → points group ≤ points' group) → CoversPrefix durability points records → CoversPrefix durability points' records
covers-raised durability points points' records up front = grind (arith, common_steps, every-durability)

-- points that are the same
pub covers-same : (durability : DurabilityTracker) (points points' : ℕ → ℕ) (records : List SharedRecord) → ((group : ℕ) → points group ≡ points' group) → CoversLog durability points records → CoversLog durability points' records
covers-same durability points points' records same covers = subst (λ p. CoversLog durability p records) (fun_ext same) covers
