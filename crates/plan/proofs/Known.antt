-- Thresholds by the values at their keys.
use Rattle.std.proofs.Common.{◌≡◌, ℕ, [], ◌∷◌, min, Option, Some, refl, sym, ap, arith, codes}
use Rattle.serde_json.specs.Data.{Data, object, Members, no_members, member}
use Rattle.serde_json.specs.Events.{members_len}
use Rattle.serde_json.specs.Find.{get}
use Rattle.quorum_expr.specs.Common.{keys_up_to}
use Rattle.quorum_expr.proofs.Exact.{exact}
use Rattle.quorum_expr.proofs.Sorted.{IsInOrder}

abbrev pub two_keys : Data → Data → Members
two_keys k of = member (codes "k") k (member (codes "of") of no_members)

abbrev pub three_keys : Data → Data → Data → Members
three_keys k of ws = member (codes "k") k (member (codes "of") of (member (codes "weights") ws no_members))

some_same : (m n : ℕ) → ◌≡◌ {A = Option ℕ} (Some m) (Some n) → m ≡ n
some_same m n h = cc

pub known-two : (d k of : Data) → IsInOrder d → Some 2 ≡ keys_up_to 4 d → Some k ≡ get (codes "k") d → Some of ≡ get (codes "of") d → d ≡ object (two_keys k of)
known-two (object ms) k of up n h i =
    let few : 2 ≡ min (members_len ms) 4 = some_same 2 (min (members_len ms) 4) n in
    let many : members_len ms ≡ 2 = omega (arith, few) in
    ap object (exact ((codes "k", k) ∷ (codes "of", of) ∷ []) ms (refl, (tt, tt)) up (sym h, (sym i, tt)) many)
known-two d k of up n h i = absurd (cc)

pub known-three : (d k of ws : Data) → IsInOrder d → Some 3 ≡ keys_up_to 4 d → Some k ≡ get (codes "k") d → Some of ≡ get (codes "of") d → Some ws ≡ get (codes "weights") d → d ≡ object (three_keys k of ws)
known-three (object ms) k of ws up n h i j =
    let few : 3 ≡ min (members_len ms) 4 = some_same 3 (min (members_len ms) 4) n in
    let many : members_len ms ≡ 3 = omega (arith, few) in
    ap object (exact ((codes "k", k) ∷ (codes "of", of) ∷ (codes "weights", ws) ∷ []) ms (refl, (refl, (tt, tt))) up (sym h, (sym i, (sym j, tt))) many)
known-three d k of ws up n h i j = absurd (cc)
