-- Objects whose keys are known.
use Rattle.std.proofs.Common.{◌≡◌, ℕ, ◌≤◌, List, [], ◌∷◌, length, Option, Some, None, Ordering, Less, Equal, Greater, refl, ap, ◌∙◌, arith}
use Rattle.std.specs.Prelude.{⊤}
use Rattle.std.specs.Ordering.{match_ordering, ordering_reverse}
use Rattle.std.proofs.lemmas.Cmp.{nat_list_cmp_total}
use Rattle.std.proofs.lemmas.Slice.Eq.{bytes_eq-Decides}
use Rattle.std.proofs.lemmas.Map.Text.{is_eq-slice_cmp}
use Rattle.serde_json.specs.Data.{Data, Members, no_members, member}
use Rattle.serde_json.specs.Events.{members_len}
use Rattle.serde_json.specs.Find.{get_member}
use Rattle.quorum_expr.proofs.Keys.{Cmp, IsAscending, not_below, skipped, turned}
use Rattle.std.proofs.lemmas.Grind.{common_steps}

-- keys with their values
abbrev pub Entries : Type 0
Entries = List (List ℕ × Data)

-- the first key is above l
abbrev IsFirst : List ℕ → Entries → Type 0
IsFirst l [] = ⊤
IsFirst l (p ∷ ps) = Cmp l p.0 ≡ Less

abbrev pub AreSorted : Entries → Type 0
AreSorted [] = ⊤
AreSorted (p ∷ ps) = IsFirst p.0 ps × AreSorted ps

-- each key has its value among the members
abbrev pub AreFound : Entries → Members → Type 0
AreFound [] ms = ⊤
AreFound (p ∷ ps) ms = (get_member p.0 ms ≡ Some p.1) × AreFound ps ms

abbrev pub members_from : Entries → Members
members_from [] = no_members
members_from (p ∷ ps) = member p.0 p.1 (members_from ps)

passed : (o : Ordering) (a b : Option Data) → o ≡ Greater → match_ordering o a b a ≡ a
passed o a b h = ap (λ p. match_ordering p a b a) h

over : (k l : List ℕ) → Cmp l k ≡ Less → Cmp k l ≡ Greater
over k l h = nat_list_cmp_total.antisymm k l ∙ ap ordering_reverse h

first_after : (l k : List ℕ) (ps : Entries) → Cmp l k ≡ Less → IsFirst k ps → IsFirst l ps
first_after l k [] h i = tt
first_after l k (p ∷ ps) h i = nat_list_cmp_total.trans l k p.0 h i

-- keys above the first are found behind it
behind : (l : List ℕ) (e : Data) (ms : Members) (ps : Entries) → IsFirst l ps → AreSorted ps → AreFound ps (member l e ms) → AreFound ps ms
behind l e ms [] first up found = tt
behind l e ms (p ∷ ps) first up found = grind (arith, common_steps, passed, Cmp, Some, over, first_after, (behind l e ms ps (first_after l p.0 ps first up.0) up.1 found.1))

none_below : (o : Ordering) (p : List ℕ × Data) (l : List ℕ) (e : Data) (ms : Members) → Cmp p.0 l ≡ o → o ≡ Less → IsAscending (member l e ms) → get_member p.0 (member l e ms) ≡ Some p.1 → ⊥
none_below o p l e ms is less up found = grind (arith, common_steps, None, not_below, Option, Some, skipped, Cmp)

module _ (p : List ℕ × Data) (ps : Entries) (l : List ℕ) (e : Data) (ms : Members) (sorted : AreSorted (p ∷ ps)) (up : IsAscending (member l e ms)) (found : AreFound (p ∷ ps) (member l e ms)) where
  few_at : (o : Ordering) → Cmp p.0 l ≡ o → (AreFound ps ms → length ps ≤ members_len ms) → (AreFound (p ∷ ps) ms → length (p ∷ ps) ≤ members_len ms) → length (p ∷ ps) ≤ members_len (member l e ms)
  few_at Less is here later = absurd (none_below Less p l e ms is refl up found.0)
  few_at Equal is here later = grind (arith, common_steps, bytes_eq-Decides, is_eq-slice_cmp, behind, IsFirst, (bytes_eq-Decides p.0 l), (is_eq-slice_cmp p.0 l))
  few_at Greater is here later = grind (arith, common_steps, (behind l e ms (p ∷ ps) (turned p.0 l is) sorted found), (turned p.0 l is))

  exact_at : (o : Ordering) → Cmp p.0 l ≡ o → members_len (member l e ms) ≡ length (p ∷ ps) → (AreFound ps ms → members_len ms ≡ length ps → ms ≡ members_from ps) → (AreFound (p ∷ ps) ms → length (p ∷ ps) ≤ members_len ms) → member l e ms ≡ members_from (p ∷ ps)
  exact_at Less is many here later = absurd (none_below Less p l e ms is refl up found.0)
  exact_at Equal is many here later = grind (arith, common_steps, bytes_eq-Decides, is_eq-slice_cmp, Option, Some, behind, IsFirst, (bytes_eq-Decides p.0 l), (is_eq-slice_cmp p.0 l), (Option Data), (Some e), (Some p.1))
  exact_at Greater is many here later = grind (arith, common_steps, (behind l e ms (p ∷ ps) (turned p.0 l is) sorted found), (turned p.0 l is))

-- so many keys at least
pub few : (ps : Entries) (ms : Members) → AreSorted ps → IsAscending ms → AreFound ps ms → length ps ≤ members_len ms
few [] ms sorted up found = omega arith
few (p ∷ ps) no_members sorted up found = let none = found.0 in absurd (cc)
few (p ∷ ps) (member l e ms) sorted up found = few_at p ps l e ms sorted up found (Cmp p.0 l) refl (few ps ms sorted.1 up.1) (few (p ∷ ps) ms sorted up.1)

-- so many keys, and no others
pub exact : (ps : Entries) (ms : Members) → AreSorted ps → IsAscending ms → AreFound ps ms → members_len ms ≡ length ps → ms ≡ members_from ps
exact [] no_members sorted up found many = refl
exact [] (member l e ms) sorted up found many = absurd (omega (arith, many))
exact (p ∷ ps) no_members sorted up found many = let none = found.0 in absurd (cc)
exact (p ∷ ps) (member l e ms) sorted up found many = exact_at p ps l e ms sorted up found (Cmp p.0 l) refl many (exact ps ms sorted.1 up.1) (few (p ∷ ps) ms sorted up.1)
