-- The point of one group is raised, where those of the others are raised already.
use Rattle.std.proofs.Common.{◌≡◌, ℕ, zero, suc, ◌+◌, ◌<◌, ◌≤◌, Bool, true, false, ◌||◌, ◌==◌, max, List, [], ◌∷◌, length, refl, sym, ap, ap₂, ◌∙◌, subst, inl, inr, arith, get_or-set_same, slice_set}
use Rattle.std.proofs.lemmas.List.{set-set, set_past}
use Rattle.std.proofs.lemmas.Bool.{cases_Bool, cases_lt, true≢false}
use Rattle.volume_model.specs.Common.{IsIn, Formula, sat, Plan, Count, ClientGroup, group_of, group_point_of, place_configuration, reaching, best, counted_by, with_count, raised_group, raised_from, raised}
use Rattle.volume_model.proofs.FormulaLaws.{sat_more}
use Rattle.volume_model.proofs.Groups.{set-all, length-slice_set, group_of-beyond, group_of-raised, length-raised}
use Rattle.volume_model.proofs.Points.{reaching-some, reaching-from}
use Rattle.writer_core.specs.Raised.{counted_point, AreRaised, HaveJoined, raised_in}
use Rattle.writer_core.specs.GroupStates.{counted_in}
use Rattle.std.proofs.lemmas.Grind.{common_steps}

-- ---- what counts satisfy

-- no set of members that the expression takes has reached a number above the bound
best-le : (write : Formula) (all list : List Count) (n : ℕ) → ((c : Count) → IsIn c list → n < c.reached → sat write (reaching all c.reached) ≡ false) → best write all list ≤ n
best-le write all [] n h = omega arith
best-le write all (c ∷ rest) n h =
    grind (arith, common_steps, (best-le write all rest n (λ d i. h d (inr i))))

best-above : (write : Formula) (all list : List Count) (n : ℕ) → best write all list ≤ n → (c : Count) → IsIn c list → n < c.reached → sat write (reaching all c.reached) ≡ false
best-above write all [] n h c i more = absurd i
best-above write all (d ∷ rest) n h c i more =
    elim (cases_Bool (sat write (reaching all d.reached))) [
      | inl e ↦ (
          let low : max d.reached (best write all rest) ≤ n = rw e at h in
          elim i [
            | inl p ↦ absurd (let same : c.reached ≡ d.reached = ap (λ z. z.reached) p in omega arith)
            | inr j ↦ best-above write all rest n (omega arith) c j more
          ])
      | inr e ↦ (
          elim i [
            | inl p ↦ ap (λ z. sat write (reaching all z.reached)) p ∙ e
            | inr j ↦ best-above write all rest n (omega arith) c j more
          ])
    ]

-- a count above what is counted was there before
in-with_count : (counts : List Count) (sender reached : ℕ) (c : Count) → IsIn c (with_count sender reached counts) → reached < c.reached → IsIn c counts
in-with_count [] sender reached c (inl p) more = absurd (let same : c.reached ≡ reached = ap (λ z. z.reached) p in omega arith)
in-with_count [] sender reached c (inr i) more = absurd i
in-with_count (d ∷ rest) sender reached c i more =
    elim (cases_Bool (d.sender == sender)) [
      | inl e ↦ grind (arith, common_steps)
      | inr e ↦ elim (rw e at i) [ inl p ↦ inl p | inr j ↦ inr (in-with_count rest sender reached c j more) ]
    ]

-- a count that isn't above the bound satisfies nothing above it
pub best-counted : (write : Formula) (counts : List Count) (sender reached n : ℕ) → best write counts counts ≤ n → reached ≤ n → best write (with_count sender reached counts) (with_count sender reached counts) ≤ n
best-counted write counts sender reached n low le =
    best-le write (with_count sender reached counts) (with_count sender reached counts) n fails
  where
    fails : (c : Count) → IsIn c (with_count sender reached counts) → n < c.reached → sat write (reaching (with_count sender reached counts) c.reached) ≡ false
    fails c i more = grind (arith, common_steps, cases_Bool, sat_more, reaching-some, reaching-from, in-with_count, best-above, true≢false, (cases_Bool (sat write (reaching (with_count sender reached counts) c.reached))), (in-with_count counts sender reached c i (omega arith)), (best-above write counts counts n low c (in-with_count counts sender reached c i (omega arith)) more))

-- ---- groups that are raised already

-- the group has joined where its counted acknowledgements satisfy its write expression
abbrev HasJoined : Plan → ℕ → ClientGroup → Type 0
HasJoined plan number g = sat (place_configuration plan number g.place).write (counted_by g.counts) ≡ true → g.joined ≡ true

or-right : (a b : Bool) → b ≡ true → (a || b) ≡ true
or-right true b h = refl
or-right false b h = h

-- from a number on
abbrev AreRaisedFrom : Plan → ℕ → List ClientGroup → Type 0
AreRaisedFrom plan n groups = (k : ℕ) → k < length groups → raised_group plan (n + k) (group_of groups k) ≡ group_of groups k

rest_raised : (plan : Plan) (n : ℕ) (g : ClientGroup) (groups : List ClientGroup) → AreRaisedFrom plan n (g ∷ groups) → AreRaisedFrom plan (suc n) groups
rest_raised plan n g groups h k l = let e : n + suc k ≡ suc n + k = omega arith in subst (λ m. raised_group plan m (group_of groups k) ≡ group_of groups k) e (h (suc k) (omega arith))

first_raised : (plan : Plan) (n : ℕ) (g : ClientGroup) (groups : List ClientGroup) → AreRaisedFrom plan n (g ∷ groups) → raised_group plan n g ≡ g
first_raised plan n g groups h = let e : n + 0 ≡ n = omega arith in subst (λ m. raised_group plan m g ≡ g) e (h 0 (omega arith))

raised_from-same : (plan : Plan) (n : ℕ) (groups : List ClientGroup) → AreRaisedFrom plan n groups → raised_from plan n groups ≡ groups
raised_from-same plan n [] h = refl
raised_from-same plan n (g ∷ groups) h = ap₂ (λ (x : ClientGroup) xs. x ∷ xs) (first_raised plan n g groups h) (raised_from-same plan (suc n) groups (rest_raised plan n g groups h))

raised_from-set : (plan : Plan) (n : ℕ) (groups : List ClientGroup) (i : ℕ) (g : ClientGroup) → AreRaisedFrom plan n groups → raised_from plan n (slice_set groups i g) ≡ slice_set groups i (raised_group plan (n + i) g)
raised_from-set plan n [] i g h = refl
raised_from-set plan n (x ∷ xs) zero g h = grind (arith, common_steps, (raised_from-same plan (suc n) xs (rest_raised plan n x xs h)), (rest_raised plan n x xs h))
raised_from-set plan n (x ∷ xs) (suc i) g h = grind (arith, common_steps, (raised_from-set plan (suc n) xs i g (rest_raised plan n x xs h)), (first_raised plan n x xs h), (rest_raised plan n x xs h))

raised_at_all : (plan : Plan) (groups : List ClientGroup) → AreRaised plan groups → HaveJoined plan groups → AreRaisedFrom plan 0 groups
raised_at_all plan groups h j k l = grind (arith, common_steps)

-- raising them again changes nothing
pub raised-same : (plan : Plan) (groups : List ClientGroup) → AreRaised plan groups → HaveJoined plan groups → raised plan groups ≡ groups
raised-same plan groups h j = raised_from-same plan 0 groups (raised_at_all plan groups h j)

-- points that were raised
pub are_raised : (plan : Plan) (groups : List ClientGroup) → AreRaised plan (raised plan groups)
are_raised plan groups k = grind (arith, common_steps, cases_lt, group_of-raised, length-raised, group_of-beyond)

-- groups that were raised have joined where they may
pub have_joined : (plan : Plan) (groups : List ClientGroup) → HaveJoined plan (raised plan groups)
have_joined plan groups k l = grind (arith, common_steps, length-raised, HasJoined, group_of-raised, or-right)

-- the same, of a plan and of groups that are these
pub raised_all : (plan now : Plan) (groups next : List ClientGroup) → now ≡ plan → next ≡ raised plan groups → AreRaised now next
raised_all plan now groups next same rises = subst (λ p. AreRaised p next) (sym same) (subst (AreRaised plan) (sym rises) (are_raised plan groups))

pub joined_all : (plan now : Plan) (groups next : List ClientGroup) → now ≡ plan → next ≡ raised plan groups → HaveJoined now next
joined_all plan now groups next same rises = subst (λ p. HaveJoined p next) (sym same) (subst (HaveJoined plan) (sym rises) (have_joined plan groups))

-- ---- one acknowledgement more

-- where one group has changed, it alone is to be raised
pub raised-set : (plan : Plan) (groups : List ClientGroup) (i : ℕ) (g : ClientGroup) → AreRaised plan groups → HaveJoined plan groups → raised_in plan (slice_set groups i g) i ≡ raised plan (slice_set groups i g)
raised-set plan groups i g h j = grind (arith, common_steps, slice_set, raised_from-set, raised_at_all, cases_lt, get_or-set_same, set-set, length-slice_set, set_past, (slice_set groups i g), (slice_set groups i (raised_group plan i g)), (raised_from-set plan 0 groups i g (raised_at_all plan groups h j)), (raised_at_all plan groups h j), (cases_lt i (length groups)))

-- an acknowledgement was counted and its group raised: so all are
pub raised-counted : (plan : Plan) (old now next : List ClientGroup) (group sender reached : ℕ) → AreRaised plan old → HaveJoined plan old → now ≡ counted_in old group sender reached → next ≡ raised_in plan now group → next ≡ raised plan (counted_in old group sender reached)
raised-counted plan old now next group sender reached h j counts rises = grind (arith, common_steps, raised-set)

-- an acknowledgement that isn't above its group's point leaves nothing to raise
pub counted_raised : (plan : Plan) (groups : List ClientGroup) (group sender reached : ℕ) → AreRaised plan groups → reached ≤ group_point_of groups group → AreRaised plan (counted_in groups group sender reached)
counted_raised plan groups group sender reached h le = grind (arith, common_steps, set-all, best-counted)

-- one of a group that has joined leaves none to join
pub counted_joined : (plan : Plan) (groups : List ClientGroup) (group sender reached : ℕ) → HaveJoined plan groups → (group_of groups group).joined ≡ true → HaveJoined plan (counted_in groups group sender reached)
counted_joined plan groups group sender reached j there k l = grind (arith, common_steps)

-- it raises no point
pub group_point_of-counted_in : (groups : List ClientGroup) (group sender reached k : ℕ) → group_point_of (counted_in groups group sender reached) k ≡ group_point_of groups k
group_point_of-counted_in groups group sender reached = grind (arith, common_steps)

-- and lets no group join
pub joined-counted_in : (groups : List ClientGroup) (group sender reached k : ℕ) → (group_of (counted_in groups group sender reached) k).joined ≡ (group_of groups k).joined
joined-counted_in groups group sender reached = grind (arith, common_steps)
