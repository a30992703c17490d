-- The messages that are left.
use Rattle.std.proofs.Common.{◌≡◌, ◌≤◌, ◌+◌, ℕ, List, [], ◌∷◌, ◌++◌, drop, length, take, Some, sym, ap, ◌∙◌, arith, slice_get}
use Rattle.std.proofs.lemmas.List.{drop_all, drop_more, drop-drop, length-append, length-drop, take_at}
use Rattle.std.proofs.lemmas.Option.{get_or_from_slice_get, slice_get_within}

pub left-first : {X : Type 0} (xs : List X) (i : ℕ) (x : X) → slice_get xs i ≡ Some x → drop i xs ≡ x ∷ drop 1 (drop i xs)
left-first xs i x at =
    let more = drop_more xs i x (slice_get_within xs i x at) ∙ ap (λ y. y ∷ drop (i + 1) xs) (get_or_from_slice_get xs i x x at) in
    more ∙ ap (λ ys. x ∷ ys) (sym (drop-drop 1 i xs))

-- none is left behind the last one
pub left-last : {X : Type 0} (xs : List X) (i : ℕ) → length xs ≤ i + 1 → [] ≡ drop 1 (drop i xs)
left-last xs i all = sym (drop-drop 1 i xs ∙ drop_all (i + 1) xs all)

-- a text of n bytes is at the front of a buffer that has room for n
pub front-filled : (text old new : List ℕ) (n : ℕ) → n ≤ length old → length new ≡ length old → new ≡ text ++ drop n old → take n new ≡ text
front-filled text old new n room same is =
    let long : length text ≡ n = omega (arith, ap length is, length-append text (drop n old), length-drop n old) in
    ap (take n) is ∙ take_at text (drop n old) n long
