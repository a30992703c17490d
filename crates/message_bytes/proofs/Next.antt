-- A record that comes after the last of others.
use Rattle.std.proofs.Common.{◌≡◌, ℕ, zero, suc, ◌-◌, ◌<◌, List, [], ◌∷◌, length, get_or, refl, arith}
use Rattle.volume_model.specs.Common.{Redo, spelling, numbers_before}
use Rattle.message_bytes.specs.Contents.{is_next}

pub next-at : (records : List Redo) (n : ℕ) (r d : Redo) → length records ≡ suc n → is_next records r ≡ numbers_before (spelling (get_or records n d)) (spelling r)
next-at [] n r d long = absurd (omega (arith, long))
next-at (s ∷ []) zero r d long = refl
next-at (s ∷ []) (suc n) r d long = absurd (omega (arith, long))
next-at (s ∷ t ∷ rest) zero r d long = absurd (omega (arith, long))
next-at (s ∷ t ∷ rest) (suc n) r d long = next-at (t ∷ rest) n r d (omega (arith, long))

pub next-last : (records : List Redo) (r d : Redo) → 0 < length records → is_next records r ≡ numbers_before (spelling (get_or records (length records - 1) d)) (spelling r)
next-last records r d some = next-at records (length records - 1) r d (omega (arith, some))
