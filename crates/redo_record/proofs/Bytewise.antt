-- Payloads that are compared byte by byte
use Rattle.std.proofs.Common.{◌≡◌, ℕ, zero, suc, ◌<◌, ◌≤◌, ◌+◌, ◌-◌, ◌&&◌, Bool, true, false, nat_eq, List, [], ◌∷◌, ◌++◌, length, drop, replicate, slice_index, refl, sym, ◌∙◌, inl, inr, arith}
use Rattle.std.proofs.lemmas.Bool.{cases_lt, and_parts, and_from, eq-eqb}
use Rattle.std.proofs.lemmas.List.{ext_get_or, get_or-drop, get_or-take, get_or_append_left, get_or_past, length-append, length-drop, length-replicate, length-take-le}
use Rattle.std.proofs.Math.Seq.{get_or-append_right}
use Rattle.volume_model.specs.Common.{same_numbers}
use Rattle.redo_record.specs.declared.payload.Payload.{Payload}
use Rattle.redo_record.specs.Padding.{IsPadded}
use Rattle.redo_record.specs.Payload.{payload_bytes}
use Rattle.redo_record.proofs.Before.{same_numbers-true}
use Rattle.std.proofs.lemmas.Grind.{common_steps}
use Rattle.std.proofs.Common.{rules}

same_numbers-refl : (xs : List ℕ) → same_numbers xs xs ≡ true
same_numbers-refl [] = refl
same_numbers-refl (x ∷ xs) = and_from (nat_eq x x) (same_numbers xs xs) (eq-eqb x x refl) (same_numbers-refl xs)

-- two tests that pass together
both-pass : (a b : Bool) → (a ≡ true → b ≡ true) → (b ≡ true → a ≡ true) → a ≡ b
both-pass true b there back = sym (there refl)
both-pass false true there back = back refl
both-pass false false there back = refl

-- the lengths are the same, and so are so many bytes
abbrev pub AreSame : Payload → Payload → ℕ → Type 0
AreSame a b n = (a.length ≡ b.length) × ((k : ℕ) → k < n → slice_index a.place k ≡ slice_index b.place k)

-- what is known when so many bytes were compared
pub record IsSameTo (a b : Payload) (n : ℕ) (same : Bool) : Type 0 where
  pub shown : same ≡ true → AreSame a b n
  pub found : AreSame a b n → same ≡ true

pub same-begun : (a b : Payload) → IsSameTo a b 0 (nat_eq a.length b.length)
same-begun a b = grind (arith, common_steps)

pub same-next : (a b : Payload) (n : ℕ) (same : Bool) → IsSameTo a b n same → IsSameTo a b (n + 1) (same && nat_eq (slice_index a.place n) (slice_index b.place n))
same-next a b n same is = grind (arith, common_steps)

module _ (a b : Payload) where
  own-length : length (payload_bytes a) ≡ a.length
  own-length = length-take-le a.length a.place (omega (arith, a.padded.sized, a.in_place))

  other-length : length (payload_bytes b) ≡ b.length
  other-length = length-take-le b.length b.place (omega (arith, b.padded.sized, b.in_place))

  bytes-same : AreSame a b 64 → payload_bytes a ≡ payload_bytes b
  bytes-same h = ext_get_or 0 (payload_bytes a) (payload_bytes b) (own-length ∙ h.0 ∙ sym other-length) (λ k l.
      let within : k < a.length = omega (arith, own-length) in
      get_or-take a.length a.place k 0 within ∙ h.1 k (omega (arith, a.in_place)) ∙ sym (get_or-take b.length b.place k 0 (omega (arith, h.0))))

  same-bytes : payload_bytes a ≡ payload_bytes b → AreSame a b 64
  same-bytes e = grind (arith, common_steps)

  -- all were compared
  pub same-ended : (n : ℕ) (same : Bool) → n ≡ 64 → IsSameTo a b n same → same ≡ same_numbers (length (payload_bytes a) ∷ payload_bytes a) (length (payload_bytes b) ∷ payload_bytes b)
  same-ended n same all is = search (rules, both-pass, bytes-same, same_numbers-refl, same-bytes, same_numbers-true, and_parts, nat_eq)

-- zeros behind some bytes
zeros : (n k : ℕ) → slice_index (replicate n 0) k ≡ 0
zeros zero k = refl
zeros (suc n) zero = refl
zeros (suc n) (suc k) = zeros n k

-- bytes of which those behind the first count are 0, with zeros behind them
pub padded-behind : (bytes : List ℕ) (n count : ℕ) → length bytes ≡ n → n ≤ 64 → ((at : ℕ) → count ≤ at → slice_index bytes at ≡ 0) → IsPadded (bytes ++ drop n (replicate 64 0)) count
padded-behind bytes n count e l cleared =
    let room : List ℕ = replicate 64 0 in
    record {
      sized = length-append bytes (drop n room) ∙ omega (arith, e, l, length-drop n room, length-replicate 64 zero);
      cleared = λ at h. elim (cases_lt at n) [
        | inl m ↦ get_or_append_left bytes (drop n room) 0 at (omega (arith, e)) ∙ cleared at h
        | inr m ↦ get_or-append_right bytes (drop n room) at 0 (omega (arith, e)) ∙ get_or-drop n room (at - length bytes) 0 ∙ zeros 64 (n + (at - length bytes))
      ];
    }

pub is-padded : (bytes : List ℕ) (n : ℕ) → length bytes ≡ n → n ≤ 64 → IsPadded (bytes ++ drop n (replicate 64 0)) n
is-padded bytes n e l = padded-behind bytes n n e l (λ at h. get_or_past bytes at 0 (omega (arith, e)))
