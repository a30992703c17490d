-- A counted acknowledgement stays counted, with the greatest number of its sender.
use Rattle.std.proofs.Common.{◌≡◌, ℕ, ◌≤◌, max, true, ◌==◌, List, [], ◌∷◌, refl, sym, ap, ◌∙◌, inl, inr, arith}
use Rattle.std.proofs.lemmas.Bool.{cases_Bool, eqb-true}
use Rattle.volume_model.specs.Common.{IsIn, Count, reaching, with_count}
use Rattle.volume_model.proofs.Points.{reaching-some, reaching-from}
use Rattle.std.proofs.lemmas.Grind.{common_steps}

-- a count of this sender, of at least this number
record HasCount (counts : List Count) (sender reached : ℕ) : Type 0 where
  count : Count
  there : IsIn count counts
  same : count.sender ≡ sender
  above : reached ≤ count.reached

with_count-keeps : (sender reached : ℕ) (counts : List Count) (old : Count) → IsIn old counts → HasCount (with_count sender reached counts) old.sender old.reached
with_count-keeps sender reached [] old i = absurd i
with_count-keeps sender reached (c ∷ rest) old i =
    elim (cases_Bool (c.sender == sender)) [
      | inl e ↦ elim i [
        | inl p ↦ (let q : c.sender ≡ old.sender = ap (λ z. z.sender) (sym p) in let k : old.reached ≡ c.reached = ap (λ z. z.reached) p in
            rw e (record { count = record { sender = sender; reached = max c.reached reached }; there = inl refl; same = sym (eqb-true c.sender sender e) ∙ q; above = omega arith }))
        | inr j ↦ rw e (record { count = old; there = inr j; same = refl; above = omega arith })
      ]
      | inr e ↦ elim i [
        | inl p ↦ rw e (record { count = c; there = inl refl; same = ap (λ z. z.sender) (sym p); above = (let k : old.reached ≡ c.reached = ap (λ z. z.reached) p in omega arith) })
        | inr j ↦ grind (arith, common_steps, (with_count-keeps sender reached rest old j))
      ]
    ]

with_count-has : (sender reached : ℕ) (counts : List Count) → HasCount (with_count sender reached counts) sender reached
with_count-has sender reached [] = record { count = record { sender = sender; reached = reached }; there = inl refl; same = refl; above = omega arith }
with_count-has sender reached (c ∷ rest) =
    elim (cases_Bool (c.sender == sender)) [
      | inl e ↦ rw e (record { count = record { sender = sender; reached = max c.reached reached }; there = inl refl; same = refl; above = omega arith })
      | inr e ↦ (let h : HasCount (with_count sender reached rest) sender reached = with_count-has sender reached rest in
          rw e (record { count = h.count; there = inr h.there; same = h.same; above = h.above }))
    ]

-- who has reached a number has still reached it when one more acknowledgement is counted
pub reaching-keeps : (sender reached : ℕ) (counts : List Count) (n y : ℕ) → reaching counts n y ≡ true → reaching (with_count sender reached counts) n y ≡ true
reaching-keeps sender reached counts n y h =
    let (old, i, same, above) = reaching-some counts n y h in
    let new : HasCount (with_count sender reached counts) old.sender old.reached = with_count-keeps sender reached counts old i in
    let l : old.reached ≤ new.count.reached = new.above in
    reaching-from (with_count sender reached counts) n y new.count new.there (new.same ∙ same) (omega arith)

-- the sender of that acknowledgement has reached its number
pub reaching-new : (sender reached : ℕ) (counts : List Count) (n : ℕ) → n ≤ reached → reaching (with_count sender reached counts) n sender ≡ true
reaching-new sender reached counts n l = grind (arith, common_steps, with_count-has, reaching-from, (with_count-has sender reached counts))

-- who has reached a number has reached each smaller one
pub reaching-lower : (counts : List Count) (n m y : ℕ) → m ≤ n → reaching counts n y ≡ true → reaching counts m y ≡ true
reaching-lower counts n m y l h = grind (arith, common_steps, reaching-some, reaching-from)
