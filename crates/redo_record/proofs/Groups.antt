-- Records of one group
use Rattle.std.proofs.Common.{◌≡◌, ◌==◌, ◌&&◌, ℕ, true, List, [], ◌∷◌, ◌++◌, Option, Some, refl, sym, subst, inl, inr, eq-eqb}
use Rattle.volume_model.specs.Common.{every, Redo, with_record}
use Rattle.volume_model.proofs.Basics.{IsIn-append}
use Rattle.redo_record.specs.Groups.{AreOf, IsKnownGroup}
use Rattle.redo_record.proofs.Places.{with_record-from}
use Rattle.std.proofs.lemmas.Grind.{common_steps}
use Rattle.std.proofs.Common.{arith}

-- the test that each passes, and what it says
pub every-of : (group : ℕ) (records : List Redo) → AreOf group records → every (λ r. r.group == group) records ≡ true
every-of group [] all = refl
every-of group (r ∷ rest) all = rw (eq-eqb r.group group (all r (inl refl)), every-of group rest (λ s i. all s (inr i))) refl

-- a group that is kept, and none
pub known_group-some : (group : ℕ) (records : List Redo) → AreOf group records → IsKnownGroup (Some group) records
known_group-some group records all other e = grind (arith, common_steps)

-- one more of the group
pub of-more : (group : ℕ) (r : Redo) (records : List Redo) → group ≡ r.group → AreOf group records → AreOf group (r ∷ records)
of-more group r records is all s (inl e) = subst (λ (z : Redo). z.group ≡ group) (sym e) (sym is)
of-more group r records is all s (inr i) = all s i

-- the records of two lists
pub of-both : (group : ℕ) (records more : List Redo) → AreOf group records → AreOf group more → AreOf group (records ++ more)
of-both group records more all also s i = elim (IsIn-append records more s i) [ inl j ↦ all s j | inr j ↦ also s j ]

-- what is kept for a list is kept for the same records in another order
pub known_group-with_record : (known_group : Option ℕ) (r : Redo) (records : List Redo) → IsKnownGroup known_group (r ∷ records) → IsKnownGroup known_group (with_record r records)
known_group-with_record known_group r records kept group e s i = kept group e s (with_record-from r records s i)
