-- A valid expression is satisfied by the set of all members.
use Rattle.std.proofs.Common.{◌≡◌, ◌+◌, ◌≤◌, true, refl, ap, subst, sym, le-leb}
use Rattle.volume_model.specs.Common.{Formula, Children, Members, at_least, no_child, child, sat, weight_held, total_weight, HasCounts, EachHasCounts, SpeaksOf, EachSpeaksOf}
use Rattle.volume_model.specs.Formula.{member}

mutual
  -- a set that has each member that a valid expression names satisfies it
  pub sat_all : (f : Formula) (s : Members) → HasCounts f → SpeaksOf f s → sat f s ≡ true
  sat_all (member x) s counts own = own
  sat_all (at_least k of) s counts own =
      le-leb k (weight_held of s) (subst (λ n. k ≤ n) (sym (held_all of s counts.3 own)) counts.1)

  held_all : (of : Children) (s : Members) → EachHasCounts of → EachSpeaksOf of s → weight_held of s ≡ total_weight of
  held_all no_child s counts own = refl
  held_all (child w f fs) s counts own = rw (sat_all f s counts.0 own.0) (ap (λ n. w + n) (held_all fs s counts.1 own.1))
