-- The configurations that a group goes through, one an epoch, and the descent along them
use Rattle.std.proofs.Common.{◌≡◌, ℕ, zero, suc, ◌+◌, ◌<◌, ◌≤◌, true, false, ◌&&◌, ◌⊎◌, ap, ◌∙◌, sym, inl, inr, arith}
use Rattle.std.proofs.lemmas.Bool.{cases_Bool, cases_lt, and_parts, and_from, both_ways, eqb-true}
use Rattle.volume_model.specs.Common.{any, Members, sat, Plan, has_member, parent_of, is_fresh, IsAbove, IsStep, IsCertified, by_parent, by_ancestor}
use Rattle.volume_model.proofs.Basics.{any_passes, any_fails}
use Rattle.std.proofs.lemmas.Grind.{common_steps}

-- a run of configurations, one an epoch from 1 to the last, each but the root a child of the one before
pub record IsLine (plan : Plan) (group : ℕ) (line : ℕ → ℕ) (last : ℕ) : Type 0 where
  pub there : (e : ℕ) → 1 ≤ e → e ≤ last → line e < plan.configurations group
  pub root : line 1 ≡ 0
  pub parent : (e : ℕ) → 1 ≤ e → suc e ≤ last → parent_of plan group (line (suc e)) ≡ line e
  pub child : (e : ℕ) → 1 ≤ e → suc e ≤ last → 0 < line (suc e)

-- a member of no configuration up to epoch e
abbrev pub IsLate : Plan → ℕ → (ℕ → ℕ) → ℕ → ℕ → Type 0
IsLate plan group line e x = (i : ℕ) → 1 ≤ i → i ≤ e → has_member (plan.configuration group (line i)) x ≡ false

module _ (plan : Plan) (certified : IsCertified plan) (group : ℕ) (there : group < plan.groups) (line : ℕ → ℕ) (last : ℕ) (is_line : IsLine plan group line last) where
  -- above a later epoch stands each earlier one
  above_line : (i f : ℕ) → 1 ≤ i → i ≤ f → suc f ≤ last → IsAbove plan group (line i) (line (suc f))
  above_line i zero li le l = absurd (omega arith)
  above_line i (suc f) li le l =
      elim (cases_lt i (suc f)) [
        | inl earlier ↦ by_ancestor (line i) (line (suc f)) (line (suc (suc f))) (is_line.child (suc f) (omega arith) l, sym (is_line.parent (suc f) (omega arith) l)) (above_line i f li (omega arith) (omega arith))
        | inr last_one ↦ (
            let at : i ≡ suc f = omega arith in
            by_parent (line i) (line (suc (suc f))) (is_line.child (suc f) (omega arith) l, ap line at ∙ sym (is_line.parent (suc f) (omega arith) l)))
      ]

  -- who is fresh at a later epoch is late
  pub late_from_fresh : (e f x : ℕ) → 1 ≤ e → e < f → f ≤ last → is_fresh plan group (line f) x ≡ true → IsLate plan group line e x
  late_from_fresh e zero x l h k fresh i li ie = absurd (omega arith)
  late_from_fresh e (suc f) x l h k fresh i li ie = grind (arith, common_steps, above_line)

  -- a fresh member in the set, or none
  pub fresh_or_none : (c : ℕ) (set : Members) → ((x : ℕ) × (set x ≡ true) × (is_fresh plan group c x ≡ true)) ⊎ ((x : ℕ) → set x ≡ true → is_fresh plan group c x ≡ false)
  fresh_or_none c set =
      elim (cases_Bool (any (λ x. set x && is_fresh plan group c x) (plan.configuration group c).members)) [
        | inl h ↦ grind (arith, common_steps, any_passes, and_parts)
        | inr h ↦ grind (arith, common_steps, cases_Bool, and_parts, any_passes, eqb-true, both_ways, any_fails, and_from)
      ]

  -- the descent: a read set of epoch steps + e has a member of a write set of epoch e, or one that is late
  pub descent : (steps e : ℕ) (readers writers : Members) → 1 ≤ e → steps + e ≤ last → sat (plan.configuration group (line (steps + e))).read readers ≡ true → sat (plan.configuration group (line e)).write writers ≡ true → (x : ℕ) × (readers x ≡ true) × ((writers x ≡ true) ⊎ IsLate plan group line e x)
  descent zero e readers writers l h r w = grind (arith, common_steps)
  descent (suc steps) e readers writers l h r w =
      let s : suc steps + e ≡ suc (steps + e) = omega arith in
      let r' : sat (plan.configuration group (line (suc (steps + e)))).read readers ≡ true = rw s at r in
      elim (fresh_or_none (line (suc (steps + e))) readers) [
        | inl h' ↦ (let (x, a, fresh) = h' in (x, a, inr (late_from_fresh e (suc (steps + e)) x l (omega arith) (omega arith) fresh)))
        | inr none ↦ (
            let is_step : IsStep plan group (line (suc (steps + e))) = certified.step group (line (suc (steps + e))) there (is_line.there (suc (steps + e)) (omega arith) (omega arith)) (is_line.child (steps + e) (omega arith) (omega arith)) in
            let up : parent_of plan group (line (suc (steps + e))) ≡ line (steps + e) = is_line.parent (steps + e) (omega arith) (omega arith) in
            let reads : sat (plan.configuration group (parent_of plan group (line (suc (steps + e))))).read readers ≡ true = is_step.reads_on readers r' none in
            descent steps e readers writers l (omega arith) (rw up at reads) w)
      ]
