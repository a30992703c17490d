-- The claims that a deque is dealt.
use Rattle.std.proofs.Common.{◌≡◌, ◌≢◌, ℕ, ◌+◌, ◌<◌, ◌%◌, ◌==◌, [], ◌∷◌, ◌++◌, filter, cond, All, sym, ap, ◌∙◌, append-nil, zero-add, eqb-true, eq-eqb, ne_eqb, arith}
use Rattle.std.specs.List.{range_with_len}
use Rattle.std.proofs.lemmas.List.Elements.{filter-append}
use mathlib.Core.Option.{some}
use lib.ListN.{get_elem?}
use Rattle.cert_search.specs.Deque.{claims_of}
use Rattle.cert_search.proofs.Rows.{filter_at, filter_has, range_has, range_bounds, range_more, all_from}

-- a claim of the deque was dealt, and its remainder is the deque's number
pub claims_in : (workers which n i c : ℕ) → get_elem? (claims_of workers which n) i ≡ some c → (c < n) × (c % workers ≡ which)
claims_in workers which n i c e =
    let t = filter_at (λ x. x % workers == which) c (range_with_len 0 n) i e in
    let bounds = range_bounds 0 n t.1.0 c t.1.1 in
    (omega (arith, bounds.1), eqb-true (c % workers) which t.0)

-- and each such claim was dealt
pub claims_has : (workers which n c : ℕ) → c < n → c % workers ≡ which → (i : ℕ) × (get_elem? (claims_of workers which n) i ≡ some c)
claims_has workers which n c lt is = filter_has (λ x. x % workers == which) c (eq-eqb (c % workers) which is) (range_with_len 0 n) c (range_has 0 n c c lt (sym (zero-add c)))

pub claims_below : (workers which n : ℕ) → All (λ c. c < n) (claims_of workers which n)
claims_below workers which n = all_from (λ c. c < n) (claims_of workers which n) (λ i c e. (claims_in workers which n i c e).0)

claims_more : (workers which n : ℕ) → claims_of workers which (n + 1) ≡ claims_of workers which n ++ cond (n % workers == which) (n ∷ []) []
claims_more workers which n =
    ap (λ l. filter (λ c. c % workers == which) l) (range_more 0 n ∙ ap (λ k. range_with_len 0 n ++ k ∷ []) (zero-add n)) ∙ filter-append (λ c. c % workers == which) (range_with_len 0 n) (n ∷ [])

-- the next claim goes to the deque of its remainder
pub claims_here : (workers which n : ℕ) → n % workers ≡ which → claims_of workers which (n + 1) ≡ claims_of workers which n ++ n ∷ []
claims_here workers which n is = claims_more workers which n ∙ ap (λ b. claims_of workers which n ++ cond b (n ∷ []) []) (eq-eqb (n % workers) which is)

-- and the other deques stay
pub claims_elsewhere : (workers which n : ℕ) → n % workers ≢ which → claims_of workers which (n + 1) ≡ claims_of workers which n
claims_elsewhere workers which n apart =
    claims_more workers which n ∙ ap (λ b. claims_of workers which n ++ cond b (n ∷ []) []) (ne_eqb (n % workers) which apart) ∙ append-nil (claims_of workers which n)
