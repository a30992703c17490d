-- Messages are numbered from 1 in the order of making.
use Rattle.std.proofs.Common.{◌≡◌, ℕ, zero, suc, ◌+◌, ◌-◌, ◌<◌, ◌≤◌, Bool, true, false, nat_eq, if◌then◌else◌, List, [], ◌∷◌, ◌++◌, Some, None, length, map, refl, sym, ap, ◌∙◌, arith, slice_get, option_map, get_or, ◌⊎◌, inl, inr}
use Rattle.std.proofs.lemmas.Bool.Decides.{nat_tests}
use Rattle.std.proofs.lemmas.List.{length-map}
use Rattle.std.proofs.lemmas.Option.{slice_get_read}
use Rattle.volume_model.specs.Message as model
use Rattle.volume_model.proofs.ListFacts.{length-added}
use Rattle.wire.specs.declared.message.Message.{Message}
use Rattle.wire.specs.Common.{message_of, messages_of}
use Rattle.volume_model.specs.Common.{added, numbered}
use Rattle.std.proofs.lemmas.Grind.{common_steps}

-- a message that was kept before is found by its number still
numbered-kept : {A : Type 0} (xs kept : List A) (n : ℕ) → n ≤ length kept → numbered (added xs kept) n ≡ numbered kept n
numbered-kept [] kept n h = refl
numbered-kept (x ∷ xs) kept n h =
    let e : nat_eq n (suc (length kept)) ≡ false = grind (arith, nat_tests) in
    numbered-kept xs (x ∷ kept) n (omega arith) ∙ ap (λ (b : Bool). if b then Some x else numbered kept n) e

-- no message has a number above all
numbered-past : {A : Type 0} (kept : List A) (n : ℕ) → length kept < n → numbered kept n ≡ None
numbered-past [] n h = refl
numbered-past (x ∷ older) n h =
    let e : nat_eq n (suc (length older)) ≡ false = grind (arith, nat_tests) in
    ap (λ (b : Bool). if b then Some x else numbered older n) e ∙ numbered-past older n (omega arith)

numbered-here : {A : Type 0} (xs kept : List A) (i : ℕ) → numbered (added xs kept) (suc (length kept + i)) ≡ slice_get xs i
numbered-here [] kept i = numbered-past kept (suc (length kept + i)) (omega arith)
numbered-here (x ∷ xs) kept zero =
    let e : nat_eq (suc (length kept + 0)) (suc (length kept)) ≡ true = grind (arith, nat_tests) in
    numbered-kept xs (x ∷ kept) (suc (length kept + 0)) (omega arith) ∙ ap (λ (b : Bool). if b then Some x else numbered kept (suc (length kept + 0))) e
numbered-here (x ∷ xs) kept (suc i) =
    let e : suc (length kept + suc i) ≡ suc (suc (length kept) + i) = omega arith in
    ap (numbered (added xs (x ∷ kept))) e ∙ numbered-here xs (x ∷ kept) i

-- the message with a number, of a list in the order of making
pub numbered-made : {A : Type 0} (xs : List A) (i : ℕ) → numbered (added xs []) (suc i) ≡ slice_get xs i
numbered-made xs i = let e : suc i ≡ suc (0 + i) = omega arith in ap (numbered (added xs [])) e ∙ numbered-here xs [] i

-- no message has the number 0
pub numbered-zero : {A : Type 0} (kept : List A) → numbered kept 0 ≡ None
numbered-zero [] = refl
numbered-zero (x ∷ older) =
    let e : nat_eq 0 (suc (length older)) ≡ false = grind (arith, nat_tests) in
    ap (λ (b : Bool). if b then Some x else numbered older 0) e ∙ numbered-zero older

slice_get-map : {A B : Type 0} (f : A → B) (xs : List A) (k : ℕ) → slice_get (map f xs) k ≡ option_map f (slice_get xs k)
slice_get-map f [] k = refl
slice_get-map f (x ∷ xs) zero = refl
slice_get-map f (x ∷ xs) (suc k) = slice_get-map f xs k

-- the message with a number that isn't 0
pub numbered-at : (messages : List Message) (number : ℕ) → 0 < number → numbered (added (messages_of messages) []) number ≡ option_map message_of (slice_get messages (number - 1))
numbered-at messages number h = grind (arith, common_steps, (numbered-made (messages_of messages) (number - 1)), (slice_get-map message_of messages (number - 1)))

-- it is there where the number isn't above all
pub numbered-read : (messages : List Message) (number : ℕ) (m : Message) → 0 < number → number ≤ length messages → m ≡ get_or messages (number - 1) m → Some (message_of m) ≡ numbered (added (messages_of messages) []) number
numbered-read messages number m low high e = grind (arith, common_steps, numbered-at, option_map, slice_get_read)

-- and else it isn't
pub numbered-none : (messages : List Message) (number : ℕ) → (number ≡ 0) ⊎ (length messages < number) → None ≡ numbered (added (messages_of messages) []) number
numbered-none messages number (inl e) = sym (ap (numbered (added (messages_of messages) [])) e ∙ numbered-zero (added (messages_of messages) []))
numbered-none messages number (inr h) = grind (arith, common_steps, numbered-past, length-added, length-map)

-- these messages after those
pub added-messages : (messages more : List Message) → added (messages_of (messages ++ more)) [] ≡ added (messages_of more) (added (messages_of messages) [])
added-messages messages more = from_kept messages []
  where
    from_kept : (ms : List Message) (kept : List model.Message) → added (messages_of (ms ++ more)) kept ≡ added (messages_of more) (added (messages_of ms) kept)
    from_kept [] kept = refl
    from_kept (x ∷ ms) kept = from_kept ms (message_of x ∷ kept)
