-- A plan whose claims are met is certified.
use Rattle.std.proofs.Common.{◌≡◌, ℕ, zero, suc, ◌<◌, Bool, true, false, not, ◌&&◌, nat_lt, ◌⊎◌, refl, sym, ap, ◌∙◌, inl, inr, arith}
use Rattle.std.proofs.lemmas.Bool.{cases_Bool, and_parts, both_ways, lt-ltb, ltb-true, not-true}
use Rattle.std.specs.Ordering.{nat_cmp}
use Rattle.std.specs.FinSet.{FinSet, empty, contains, contains-empty}
use Rattle.volume_model.specs.Common.{Formula, Members, sat, dual_of, SpeaksOf, AreMembers, AreDisjoint, Meets, Configuration, has_member, parent_of, HaveCommonMember, KeepsClaim, KeepsStepClaim, ClaimsCertify}
use Rattle.volume_model.proofs.FormulaLaws.{sat-own, sat-dual_of}
use Rattle.std.proofs.lemmas.Grind.{common_steps}

-- of a set, the members that there can be
abbrev below_64 : Members → Members
below_64 set x = nat_lt x 64 && set x

below_64-members : (set : Members) → AreMembers (below_64 set)
below_64-members set x h = ltb-true x 64 (and_parts (nat_lt x 64) (set x) h).0

below_64-of : (set : Members) (x : ℕ) → x < 64 → set x ≡ below_64 set x
below_64-of set x l = rw (lt-ltb x 64 l) refl

-- either two sets have no number below the bound in common, or here is one
common_or_none : (r w : Members) (n : ℕ) → ((x : ℕ) × (r x ≡ true) × (w x ≡ true)) ⊎ ((x : ℕ) → x < n → r x ≡ true → w x ≡ true → ⊥)
common_or_none r w zero = inr (λ x l a b. omega arith)
common_or_none r w (suc n) = grind (arith, common_steps, (common_or_none r w n), (cases_Bool (r n && w n)))

-- where two expressions are over members that there can be
module _ (configuration : Configuration) (claim : KeepsClaim configuration) where
  -- the configuration's members
  abbrev own : Members
  own = has_member configuration

  pub sat-below_64 : (f : Formula) → SpeaksOf f own → (set : Members) → sat f (below_64 set) ≡ sat f set
  sat-below_64 f speaks set = sat-own f own (below_64 set) set speaks (λ x h. sym (below_64-of set x (claim.members_below x h)))

  pub common_member : HaveCommonMember configuration.read configuration.write
  common_member readers writers reads writes =
      elim (common_or_none readers writers 64) [
        | inl found ↦ found
        | inr none ↦ absurd (claim.meets (below_64 readers) (below_64 writers) (below_64-members readers) (below_64-members writers)
            (λ x r w. (
            let a : (nat_lt x 64 ≡ true) × (readers x ≡ true) = and_parts (nat_lt x 64) (readers x) r in
            let b : (nat_lt x 64 ≡ true) × (writers x ≡ true) = and_parts (nat_lt x 64) (writers x) w in
            none x (ltb-true x 64 a.0) a.1 b.1))
            (λ x r in_empty. both_ways (contains (empty {R = nat_cmp}) x) (contains-empty nat_cmp x) in_empty)
            (sat-below_64 configuration.read claim.read_own readers ∙ reads)
            (sat-below_64 configuration.write claim.write_own writers ∙ writes))
      ]

twice : (b : Bool) → not (not b) ≡ b
twice true = refl
twice false = refl

-- the members that a set lacks
abbrev lacked_by : Members → Members
lacked_by set = below_64 (λ x. not (set x))

-- a read set that has no fresh member is a read set of the parent
reads_on : (child parent : Configuration) → KeepsClaim child → KeepsClaim parent → (fresh : FinSet nat_cmp) → Meets child.read (dual_of parent.read) fresh → (readers : Members) → sat child.read readers ≡ true → ((x : ℕ) → readers x ≡ true → contains fresh x ≡ false) → sat parent.read readers ≡ true
reads_on child parent child_claim parent_claim fresh meets readers reads none =
    elim (cases_Bool (sat parent.read readers)) [
      | inl holds ↦ holds
      | inr fails ↦ absurd (meets (below_64 readers) (lacked_by readers) (below_64-members readers) (below_64-members (λ x. not (readers x))) apart clear
          (sat-below_64 child child_claim child.read child_claim.read_own readers ∙ reads)
          (sat-dual_of parent.read (lacked_by readers) parent_claim.read_counts ∙ ap not (same ∙ fails)))
    ]
  where
    same : sat parent.read (λ x. not (lacked_by readers x)) ≡ sat parent.read readers
    same = grind (arith, common_steps, sat-own, not, lacked_by, below_64-of, twice)

    apart : AreDisjoint (below_64 readers) (lacked_by readers)
    apart x r w = both_ways (readers x) (not-true (readers x) (and_parts (nat_lt x 64) (not (readers x)) w).1) (and_parts (nat_lt x 64) (readers x) r).1

    clear : AreDisjoint (below_64 readers) (contains fresh)
    clear x r in_fresh = both_ways (contains fresh x) (none x (and_parts (nat_lt x 64) (readers x) r).1) in_fresh

pub claims_certify : ClaimsCertify
claims_certify plan claims = record {
  lal_positive = claims.lal_positive;
  born_there = claims.born_there;
  born_within = claims.born_within;
  root_there = claims.root_there;
  root_epoch = claims.root_epoch;
  quorums = grind (arith, common_steps, common_member);
  step = λ group c there below positive. (
      let claim : KeepsStepClaim plan group c = claims.step group c there below positive in
      let parent : ℕ = parent_of plan group c in
      record {
        child = claim.child;
        reads_on = λ readers reads none. reads_on (plan.configuration group c) (plan.configuration group parent) (claims.quorums group c there below) (claims.quorums group parent there (omega arith)) claim.fresh claim.meets readers reads (λ x h. claim.fresh_is x ∙ none x h);
      });
}
