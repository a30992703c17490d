-- The entries that the journal lends.
use Rattle.std.proofs.Common.{◌≡◌, ℕ, zero, suc, ◌<◌, ◌++◌, List, [], ◌∷◌, length, get_or, Some, refl, sym, ap, arith, slice_get}
use Rattle.std.specs.Borrow.{Bor}
use Rattle.journal.specs.declared.entry.Entry.{Entry}
use Rattle.journal.specs.Tokens.{shown}

pub shown_push : (ts : List (Bor Entry)) (t : Bor Entry) → shown (ts ++ t ∷ []) ≡ shown ts ++ t.now ∷ []
shown_push [] t = refl
shown_push (x ∷ ts) t = ap (λ l. x.now ∷ l) (shown_push ts t)

pub length-shown : (ts : List (Bor Entry)) → length (shown ts) ≡ length ts
length-shown [] = refl
length-shown (x ∷ ts) = ap suc (length-shown ts)

-- the entry at a place
pub shown_at : (ts : List (Bor Entry)) (k : ℕ) (t : Bor Entry) → k < length ts → t ≡ get_or ts k t → slice_get (shown ts) k ≡ Some t.now
shown_at [] k t lt is = absurd (omega arith)
shown_at (x ∷ ts) zero t lt is = ap (λ (u : Bor Entry). Some u.now) (sym is)
shown_at (x ∷ ts) (suc k) t lt is = shown_at ts k t (omega arith) is
