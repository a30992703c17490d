-- A segment that holds a group's part of a log is complete up to each record of it.
use Rattle.std.proofs.Common.{◌≡◌, ℕ, ◌<◌, ◌≤◌, ◌⊎◌, List, [], ◌∷◌, refl, sym, ap, ◌∙◌, inl, inr, arith}
use Rattle.std.proofs.lemmas.Bool.{cases_Bool, eqb-true}
use Rattle.volume_model.specs.Common.{IsIn, Redo, last_of_group, scl, IsGrounded, IsGroundedNumber, from_none, from_one, IsGreatest}
use Rattle.volume_model.proofs.Grounded.{complete_point_is_greatest}
use Rattle.volume_model.proofs.Logs.{IsChain, at_most_last}
use Rattle.std.proofs.lemmas.Grind.{common_steps}

-- the number of a group's last record is 0, or that of a record of the group
last_of_group-is : (group : ℕ) (log : List Redo) → (last_of_group group log ≡ 0) ⊎ ((r : Redo) × IsIn r log × (r.group ≡ group) × (last_of_group group log ≡ r.lsn))
last_of_group-is group [] = inl refl
last_of_group-is group (r ∷ older) = grind (arith, common_steps, cases_Bool, eqb-true, (last_of_group-is group older))

-- each record follows a smaller number of its group
pub prev_group_below : (log : List Redo) → IsChain log → (r : Redo) → IsIn r log → r.prev_group < r.lsn
prev_group_below [] c r i = absurd i
prev_group_below (s ∷ older) c r (inr i) = prev_group_below older c.1 r i
prev_group_below (s ∷ older) c r (inl p) = grind (arith, common_steps, last_of_group-is, at_most_last)

module _ (group : ℕ) (all : List Redo) where
  -- each record of the group in a log is grounded where all of them are held
  grounded_log : (log : List Redo) → IsChain log → ((r : Redo) → IsIn r log → r.group ≡ group → IsIn r all) → (r : Redo) → IsIn r log → r.group ≡ group → IsGrounded all r
  grounded_log [] c has r i g = absurd i
  grounded_log (s ∷ older) c has r (inr i) g = grounded_log older c.1 (λ t j. has t (inr j)) r i g
  grounded_log (s ∷ older) c has r (inl p) g =
      let link : r.prev_group ≡ last_of_group group older = ap (λ (z : Redo). z.prev_group) p ∙ c.0.group_link ∙ ap (λ k. last_of_group k older) (ap (λ (z : Redo). z.group) (sym p) ∙ g) in
      elim (last_of_group-is group older) [
        | inl z ↦ from_none r (has r (inl p) g) (link ∙ z)
        | inr h ↦ from_one r h.0 (has r (inl p) g) (grounded_log older c.1 (λ t j. has t (inr j)) h.0 h.1 h.2) (sym (link ∙ h.3))
      ]

  -- so the complete point is at least the LSN of each
  pub complete_up_to : (log : List Redo) → IsChain log → ((r : Redo) → IsIn r all → IsIn r log) → ((r : Redo) → IsIn r log → r.group ≡ group → IsIn r all)
      → (r : Redo) → IsIn r log → r.group ≡ group → r.lsn ≤ scl all
  complete_up_to log c within has r i g =
      let greatest : IsGreatest (IsGroundedNumber all) (scl all) = complete_point_is_greatest all (λ t j. prev_group_below log c t (within t j)) in
      greatest.at_least_each r.lsn (r, grounded_log log c has r i g, refl)

  -- and at least that of the last one
  pub complete_up_to_last : (log : List Redo) → IsChain log → ((r : Redo) → IsIn r all → IsIn r log) → ((r : Redo) → IsIn r log → r.group ≡ group → IsIn r all)
      → last_of_group group log ≤ scl all
  complete_up_to_last log c within has =
      elim (last_of_group-is group log) [
        | inl z ↦ omega arith
        | inr h ↦ (let l : h.0.lsn ≤ scl all = complete_up_to log c within has h.0 h.1 h.2 in let e : last_of_group group log ≡ h.0.lsn = h.3 in omega arith)
      ]
