-- A group's point, a log's complete point and its durable point are greatest ones
use Rattle.std.proofs.Common.{◌≡◌, ℕ, ◌<◌, ◌≤◌, max, true, ◌&&◌, nat_le, eqb, ◌⊎◌, List, [], ◌∷◌, if◌then◌else◌, refl, sym, ap, subst, inl, inr, arith}
use Rattle.std.proofs.lemmas.Bool.{cases_Bool, cases_lt, and_parts, and_from, both_ways, true≢false, eqb-true, eq-eqb, leb-true, le-leb}
use Rattle.volume_model.specs.Common.{IsIn, Formula, sat, Redo, last_lsn, Plan, IsCertified, has_cut, ClientGroup, Count, place_configuration, reaching, best, complete_of, consistency_point_below, is_consistency_point, IsGreatest, IsWrittenTo, IsRaised, GroupPointIsGreatest, NumbersGrow, IsCovered, IsPointWithin, PointsOfLogsAreGreatest, CompleteAndDurablePointsAreGreatest, World, Event, opening, run}
use Rattle.volume_model.proofs.FormulaLaws.{sat_more, sat-some}
use Rattle.volume_model.proofs.Basics.{any_passes, any_from}
use Rattle.volume_model.proofs.Logs.{IsChain, at_most_last}
use Rattle.volume_model.proofs.Filled.{IsFilled, filled}
use Rattle.volume_model.proofs.Greatest.{greatest_where, greatest-from}
use Rattle.volume_model.proofs.Finds.{IsTidy, run_tidy}
use Rattle.volume_model.proofs.Run.{run_kept, opening_kept}
use Rattle.volume_model.proofs.Sound.{facts}
use Rattle.std.proofs.lemmas.Grind.{common_steps}

-- ---- a group's point

-- of the counts that reach n, one that reaches least
record IsLeast (counts : List Count) (n : ℕ) : Type 0 where
  count : Count
  there : IsIn count counts
  reaches : n ≤ count.reached
  least : (other : Count) → IsIn other counts → n ≤ other.reached → count.reached ≤ other.reached

-- no count reaches n, or there is one that reaches least
least_or_none : (counts : List Count) (n : ℕ) → ((other : Count) → IsIn other counts → other.reached < n) ⊎ IsLeast counts n
least_or_none [] n = inl (λ other i. absurd i)
least_or_none (c ∷ rest) n =
    elim (cases_lt c.reached n) [
      | inl low ↦ grind (arith, common_steps, (least_or_none rest n))
      | inr high ↦ elim (least_or_none rest n) [
        | inl none ↦ inr (record {
          count = c;
          there = inl refl;
          reaches = high;
          least = λ other i l. elim i [ inl p ↦ (let e : other.reached ≡ c.reached = ap (λ z. z.reached) p in omega arith) | inr k ↦ absurd (let b : other.reached < n = none other k in omega arith) ];
        })
        | inr h ↦ elim (cases_lt c.reached h.count.reached) [
          | inl lower ↦ inr (record {
            count = c;
            there = inl refl;
            reaches = high;
            least = λ other i l. elim i [ inl p ↦ (let e : other.reached ≡ c.reached = ap (λ z. z.reached) p in omega arith) | inr k ↦ (let b : h.count.reached ≤ other.reached = h.least other k l in omega arith) ];
          })
          | inr higher ↦ grind (arith, common_steps)
        ]
      ]
    ]

-- who reaches n, and that there is a count of it
pub reaching-some : (counts : List Count) (n x : ℕ) → reaching counts n x ≡ true → (count : Count) × IsIn count counts × (count.sender ≡ x) × (n ≤ count.reached)
reaching-some counts n x h = grind (arith, common_steps, any_passes, and_parts, eqb-true, leb-true)

pub reaching-from : (counts : List Count) (n x : ℕ) (count : Count) → IsIn count counts → count.sender ≡ x → n ≤ count.reached → reaching counts n x ≡ true
reaching-from counts n x count i e l = any_from (λ count. eqb count.sender x && nat_le n count.reached) counts count i (and_from _ _ (eq-eqb count.sender x e) (le-leb n count.reached l))

best-where : (write : Formula) (counts list : List Count) → best write counts list ≡ greatest_where (λ c. sat write (reaching counts c.reached)) (λ c. c.reached) list
best-where write counts [] = refl
best-where write counts (c ∷ rest) = ap (max (if sat write (reaching counts c.reached) then c.reached else 0)) (best-where write counts rest)

-- what is written is at most what a count says that is written too
written_count : (write : Formula) → IsFilled write → (counts : List Count) (n : ℕ) → IsWrittenTo write counts n → (c : Count) × IsIn c counts × (sat write (reaching counts c.reached) ≡ true) × (n ≤ c.reached)
written_count write filled counts n h = grind (arith, common_steps, filled, reaching-some, least_or_none, sat_more, reaching-from, (filled (reaching counts n) h), (least_or_none counts n))

pub best-greatest : (write : Formula) → IsFilled write → (counts : List Count) → IsGreatest (IsWrittenTo write counts) (best write counts counts)
best-greatest write filled counts =
    subst (IsGreatest (IsWrittenTo write counts)) (sym (best-where write counts counts))
    (greatest-from (λ c. sat write (reaching counts c.reached)) (λ c. c.reached) counts (IsWrittenTo write counts) (λ c i h. h) (written_count write filled counts))

raised : (plan : Plan) (number : ℕ) (group : ClientGroup) → IsFilled (place_configuration plan number group.place).write → IsRaised plan number group
raised plan number group in_none = grind (arith, common_steps, (best-greatest (place_configuration plan number group.place).write in_none group.counts))

pub group_point_is_greatest : GroupPointIsGreatest
group_point_is_greatest = grind (arith, common_steps, raised, sat-some, filled)

-- ---- a log's points

grow_last : (log : List Redo) → NumbersGrow log → (r : Redo) → IsIn r log → r.lsn ≤ last_lsn log
grow_last [] grow r i = absurd i
grow_last (s ∷ older) grow r i = elim i [ inl p ↦ (let e : r.lsn ≡ s.lsn = ap (λ z. z.lsn) p in omega arith) | inr k ↦ (let b : r.lsn < s.lsn = grow.1 r k in omega arith) ]

-- a log that is covered as a whole is complete up to its last number
pub all_complete : (points : ℕ → ℕ) (log : List Redo) → NumbersGrow log → IsGreatest (IsCovered points log) (complete_of points log) → ((r : Redo) → IsIn r log → r.lsn ≤ points r.group) → complete_of points log ≡ last_lsn log
all_complete points [] grow h all = refl
all_complete points (s ∷ older) grow h all =
    let whole : IsCovered points (s ∷ older) s.lsn = record { record_there = (s, inl refl, refl); each_covered = λ r i l. all r i } in
    grind (arith, common_steps, (h.at_least_each s.lsn whole))

pub complete_greatest : (points : ℕ → ℕ) (log : List Redo) → NumbersGrow log → IsGreatest (IsCovered points log) (complete_of points log)
complete_greatest points [] grow = record { is_one = inl refl; at_least_each = λ m c. absurd c.record_there.1 }
complete_greatest points (s ∷ older) grow =
    let ih : IsGreatest (IsCovered points older) (complete_of points older) = complete_greatest points older grow.2 in
    elim (cases_Bool (eqb (complete_of points older) (last_lsn older) && nat_le s.lsn (points s.group))) [
      | inl e ↦ grind (arith, common_steps)
      | inr e ↦ rw e (record {
        is_one = grind (arith, common_steps);
        at_least_each = λ m c. (
            let (t, j, q) = c.record_there in
            elim j [
              | inl p ↦ grind (arith, common_steps, all_complete, both_ways, and_from, eq-eqb, le-leb)
              | inr k ↦ ih.at_least_each m (record { record_there = (t, k, q); each_covered = λ r i l. c.each_covered r (inr i) l })
            ]);
      })
    ]

-- a consistency point of the log, by its record
point_record : (n : ℕ) (log : List Redo) → is_consistency_point n log ≡ true → (r : Redo) × IsIn r log × (r.lsn ≡ n) × (r.point ≡ true)
point_record n log h = grind (arith, common_steps, any_passes, and_parts, eqb-true)

pub is_point-from : (n : ℕ) (log : List Redo) (r : Redo) → IsIn r log → r.lsn ≡ n → r.point ≡ true → is_consistency_point n log ≡ true
is_point-from n log r i e p = any_from (λ r. eqb r.lsn n && r.point) log r i (and_from _ _ (eq-eqb r.lsn n e) p)

durable_greatest : (limit : ℕ) (log : List Redo) → NumbersGrow log → IsGreatest (IsPointWithin limit log) (consistency_point_below limit log)
durable_greatest limit [] grow = record { is_one = inl refl; at_least_each = λ m c. absurd (true≢false (sym c.point_there)) }
durable_greatest limit (s ∷ older) grow = grind (arith, common_steps, cases_Bool, and_parts, is_point-from, leb-true, point_record, grow_last, (durable_greatest limit older grow.2), (cases_Bool (s.point && nat_le s.lsn limit)))

points_of_logs : PointsOfLogsAreGreatest
points_of_logs = record { complete = complete_greatest; durable = durable_greatest }

-- the numbers of a chain grow
pub grow_chain : (log : List Redo) → IsChain log → NumbersGrow log
grow_chain [] c = tt
grow_chain (s ∷ older) c = grind (arith, common_steps, at_most_last, (grow_chain older c.1))

-- before its cut a client has no log
log_grows : (plan : Plan) → IsCertified plan → (events : List Event) (volume : ℕ) → NumbersGrow ((run plan (opening plan) events).clients volume).log
log_grows plan certified events volume =
    let world : World = run plan (opening plan) events in
    let tidy : IsTidy (world.clients volume) = run_tidy plan events volume in
    elim (cases_Bool (has_cut (world.clients volume).stage)) [
      | inl cut ↦ grow_chain (world.clients volume).log (facts plan certified world (run_kept plan certified events (opening plan) (opening_kept plan certified)).kept volume cut).chain
      | inr not_cut ↦ grind (arith, common_steps)
    ]

pub complete_and_durable_points_are_greatest : CompleteAndDurablePointsAreGreatest
complete_and_durable_points_are_greatest = grind (arith, common_steps, points_of_logs, complete_greatest, durable_greatest, log_grows)
