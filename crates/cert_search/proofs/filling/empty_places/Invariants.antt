use Rattle.std.proofs.Common.{◌≡◌, All, length, None}
use Rattle.cert_search.proofs.filling.empty_places.Given as goal

-- so many places so far, all empty
abbrev pub invariant-loop : goal.invariant-loop
invariant-loop l = (length l.places.items ≡ l.index) × All (λ p. p ≡ None) l.places.items
