-- What is read is spelled so
use Rattle.std.proofs.Common.{◌≡◌, ℕ, zero, suc, ◌+◌, ◌<◌, ◌≤◌, true, nat_eq, ◌^◌, List, [], ◌∷◌, ◌++◌, length, get_or, take, drop, if◌then◌else◌, append_assoc, refl, sym, ap, ◌∙◌, arith}
use Rattle.std.specs.Int.{w16, w32, w64, to_be_bytes}
use Rattle.std.proofs.Math.Seq.{drop-cons}
use Rattle.std.proofs.lemmas.List.{take-append-drop, length-take, length-drop, get_or-drop}
use Rattle.std.proofs.lemmas.Nat.{be_bytes_2, be_bytes_4, be_bytes_8}
use Rattle.volume_model.specs.Common.{Redo}
use Rattle.redo_record.specs.declared.head.Head.{Head}
use Rattle.redo_record.specs.Head.{number_at, head_in, is_allowed, redo_from}
use Rattle.redo_record.specs.Spelling.{spelled}
use Rattle.std.proofs.lemmas.Grind.{common_steps}

-- each is a byte
abbrev pub IsBytes : List ℕ → Type 0
IsBytes bytes = (i : ℕ) → get_or bytes i 0 < 256

IsBytes-drop : (n : ℕ) (bytes : List ℕ) → IsBytes bytes → IsBytes (drop n bytes)
IsBytes-drop n bytes h i = rw get_or-drop (h (n + i))

IsBytes-take : (n : ℕ) (bytes : List ℕ) → IsBytes bytes → IsBytes (take n bytes)
IsBytes-take n bytes h i = grind (arith, common_steps)

piece_long : (n k : ℕ) (b : List ℕ) → k + n ≤ length b → length (take n (drop k b)) ≡ n
piece_long n k b h = simp (length-take, length-drop) (omega arith)

piece_bytes : (n k : ℕ) (b : List ℕ) → IsBytes b → IsBytes (take n (drop k b))
piece_bytes n k b h = IsBytes-take n (drop k b) (IsBytes-drop k b h)

drop-nil : (m : ℕ) → drop {A = ℕ} m [] ≡ []
drop-nil zero = refl
drop-nil (suc m) = refl

drop-more : (n k : ℕ) (b : List ℕ) → drop n (drop k b) ≡ drop (k + n) b
drop-more n zero b = ap (λ m. drop m b) (let e : n ≡ 0 + n = omega arith in e)
drop-more n (suc k) [] = drop-nil n ∙ sym (drop-nil (suc k + n))
drop-more n (suc k) (x ∷ xs) = drop-more n k xs ∙ ap (λ m. drop m (x ∷ xs)) (let e : suc (k + n) ≡ suc k + n = omega arith in e)

join : (n k m : ℕ) (b : List ℕ) → k + n ≡ m → take n (drop k b) ++ drop m b ≡ drop k b
join n k m b e = ap (λ xs. take n (drop k b) ++ xs) (sym (drop-more n k b ∙ ap (λ j. drop j b) e)) ∙ take-append-drop n (drop k b)

cell : (k m : ℕ) (b : List ℕ) → k < length b → suc k ≡ m → get_or b k 0 ∷ drop m b ≡ drop k b
cell k m b h e = ap (λ j. get_or b k 0 ∷ drop j b) (sym e) ∙ sym (drop-cons b k 0 h)

-- the fields one after the other
pub text : List ℕ → List ℕ → List ℕ → List ℕ → List ℕ → ℕ → List ℕ → List ℕ → ℕ → ℕ → List ℕ → List ℕ
text a0 a1 a2 a3 a4 g a6 a7 p n rest = a0 ++ (a1 ++ (a2 ++ (a3 ++ (a4 ++ (g ∷ (a6 ++ (a7 ++ (p ∷ n ∷ rest))))))))

pub text-same : (a0 b0 a1 b1 a2 b2 a3 b3 a4 b4 : List ℕ) (g : ℕ) (a6 b6 a7 b7 : List ℕ) (p q n m : ℕ) (rest : List ℕ) → a0 ≡ b0 → a1 ≡ b1 → a2 ≡ b2 → a3 ≡ b3 → a4 ≡ b4 → a6 ≡ b6 → a7 ≡ b7 → p ≡ q → n ≡ m
    → text a0 a1 a2 a3 a4 g a6 a7 p n rest ≡ text b0 b1 b2 b3 b4 g b6 b7 q m rest
text-same a0 b0 a1 b1 a2 b2 a3 b3 a4 b4 g a6 b6 a7 b7 p q n m rest e0 e1 e2 e3 e4 e6 e7 e8 e9 = cc

pub spelled-text : (r : Redo) → spelled r ≡ text (to_be_bytes w64 r.lsn) (to_be_bytes w32 r.volume) (to_be_bytes w64 r.prev_volume) (to_be_bytes w64 r.prev_group) (to_be_bytes w64 r.prev_block) r.group (to_be_bytes w32 r.block) (to_be_bytes w16 r.offset) (if r.point then 1 else 0) (length r.bytes) r.bytes
unfolding spelled text
spelled-text r = refl

after : (t u a x : List ℕ) → t ≡ u ++ a → t ++ x ≡ u ++ (a ++ x)
after t u a x e = ap (λ z. z ++ x) e ∙ append_assoc u a x

-- ten pieces, each written behind the ones before
pub text-written : (t0 t1 t2 t3 t4 t5 t6 t7 t8 t9 t10 a0 a1 a2 a3 a4 : List ℕ) (g : ℕ) (a6 a7 : List ℕ) (p n : ℕ) (rest : List ℕ)
    → t0 ≡ [] → t1 ≡ t0 ++ a0 → t2 ≡ t1 ++ a1 → t3 ≡ t2 ++ a2 → t4 ≡ t3 ++ a3 → t5 ≡ t4 ++ a4 → t6 ≡ t5 ++ g ∷ [] → t7 ≡ t6 ++ a6 → t8 ≡ t7 ++ a7 → t9 ≡ t8 ++ p ∷ n ∷ [] → t10 ≡ t9 ++ rest
    → t10 ≡ text a0 a1 a2 a3 a4 g a6 a7 p n rest
unfolding text
text-written t0 t1 t2 t3 t4 t5 t6 t7 t8 t9 t10 a0 a1 a2 a3 a4 g a6 a7 p n rest e0 e1 e2 e3 e4 e5 e6 e7 e8 e9 e10 = grind (arith, common_steps)

text-whole : (b : List ℕ) → 45 ≤ length b → text (take 8 (drop 0 b)) (take 4 (drop 8 b)) (take 8 (drop 12 b)) (take 8 (drop 20 b)) (take 8 (drop 28 b)) (get_or b 36 0) (take 4 (drop 37 b)) (take 2 (drop 41 b)) (get_or b 43 0) (get_or b 44 0) (drop 45 b) ≡ b
unfolding text
text-whole b h =
    let e44 : get_or b 44 0 ∷ drop 45 b ≡ drop 44 b = cell 44 45 b (omega arith) refl in
    let e43 : get_or b 43 0 ∷ get_or b 44 0 ∷ drop 45 b ≡ drop 43 b = ap (λ xs. get_or b 43 0 ∷ xs) e44 ∙ cell 43 44 b (omega arith) refl in
    let e41 : take 2 (drop 41 b) ++ (get_or b 43 0 ∷ get_or b 44 0 ∷ drop 45 b) ≡ drop 41 b = ap (λ xs. take 2 (drop 41 b) ++ xs) e43 ∙ join 2 41 43 b refl in
    let e37 = ap (λ (xs : List ℕ). take 4 (drop 37 b) ++ xs) e41 ∙ join 4 37 41 b refl in
    let e36 = ap (λ (xs : List ℕ). get_or b 36 0 ∷ xs) e37 ∙ cell 36 37 b (omega arith) refl in
    let e28 = ap (λ (xs : List ℕ). take 8 (drop 28 b) ++ xs) e36 ∙ join 8 28 36 b refl in
    let e20 = ap (λ (xs : List ℕ). take 8 (drop 20 b) ++ xs) e28 ∙ join 8 20 28 b refl in
    let e12 = ap (λ (xs : List ℕ). take 8 (drop 12 b) ++ xs) e20 ∙ join 8 12 20 b refl in
    let e8 = ap (λ (xs : List ℕ). take 4 (drop 8 b) ++ xs) e12 ∙ join 4 8 12 b refl in
    ap (λ (xs : List ℕ). take 8 (drop 0 b) ++ xs) e8 ∙ join 8 0 8 b refl

point_cell : (p : ℕ) → p ≤ 1 → (if nat_eq p 1 then 1 else 0) ≡ p
point_cell zero h = refl
point_cell (suc zero) h = refl
point_cell (suc (suc p)) h = absurd (omega arith)

pub spelled_again : (b : List ℕ) → IsBytes b → 45 ≤ length b → get_or b 43 0 ≤ 1 → length (drop 45 b) ≡ get_or b 44 0 → spelled (redo_from (head_in b) (drop 45 b)) ≡ b
spelled_again b bytes long point rest =
    spelled-text (redo_from (head_in b) (drop 45 b))
    ∙ text-same _ (take 8 (drop 0 b)) _ (take 4 (drop 8 b)) _ (take 8 (drop 12 b)) _ (take 8 (drop 20 b)) _ (take 8 (drop 28 b)) (get_or b 36 0) _ (take 4 (drop 37 b)) _ (take 2 (drop 41 b)) _ (get_or b 43 0) _ (get_or b 44 0) (drop 45 b)
    (be_bytes_8 (take 8 (drop 0 b)) (number_at w64 0 b) (piece_long 8 0 b (omega arith)) (piece_bytes 8 0 b bytes) refl)
    (be_bytes_4 (take 4 (drop 8 b)) (number_at w32 8 b) (piece_long 4 8 b (omega arith)) (piece_bytes 4 8 b bytes) refl)
    (be_bytes_8 (take 8 (drop 12 b)) (number_at w64 12 b) (piece_long 8 12 b (omega arith)) (piece_bytes 8 12 b bytes) refl)
    (be_bytes_8 (take 8 (drop 20 b)) (number_at w64 20 b) (piece_long 8 20 b (omega arith)) (piece_bytes 8 20 b bytes) refl)
    (be_bytes_8 (take 8 (drop 28 b)) (number_at w64 28 b) (piece_long 8 28 b (omega arith)) (piece_bytes 8 28 b bytes) refl)
    (be_bytes_4 (take 4 (drop 37 b)) (number_at w32 37 b) (piece_long 4 37 b (omega arith)) (piece_bytes 4 37 b bytes) refl)
    (be_bytes_2 (take 2 (drop 41 b)) (number_at w16 41 b) (piece_long 2 41 b (omega arith)) (piece_bytes 2 41 b bytes) refl)
    (point_cell (get_or b 43 0) point) rest
    ∙ text-whole b long

-- the facts that the tests of the numbers say
pub record HasAllowed (h : Head) : Type 0 where
  pub lsn_positive : 1 ≤ h.lsn
  pub lsn_in_range : h.lsn ≤ 2 ^ 62
  pub volume_epoch_positive : 1 ≤ h.volume_epoch
  pub prev_volume_before : h.prev_volume < h.lsn
  pub prev_group_in_volume : h.prev_group ≤ h.prev_volume
  pub prev_block_in_group : h.prev_block ≤ h.prev_group
  pub group_in_range : h.group < 16
  pub bytes_within : h.offset + h.length ≤ 512
  pub point_is_flag : h.point ≤ 1
  pub not_empty : 1 ≤ h.length
  pub not_more : h.length ≤ 64

pub allowed_facts : (h : Head) → is_allowed h ≡ true → HasAllowed h
allowed_facts h e = grind (arith, common_steps)

pub allowed_point : (h : Head) → is_allowed h ≡ true → h.point ≤ 1
allowed_point h e = (allowed_facts h e).point_is_flag
