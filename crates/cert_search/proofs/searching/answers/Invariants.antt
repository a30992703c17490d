use Rattle.std.proofs.Common.{◌≡◌, length, map}
use Rattle.plan.specs.Common.{all_lent}
use Rattle.cert_search.specs.Answers.{rule_in, EachAnswers}
use Rattle.cert_search.specs.Places.{ArePlaces}
use Rattle.cert_search.proofs.searching.answers.Given as goal

-- the claims before have their answers
abbrev pub invariant-loop-at : goal.invariant-loop-at
invariant-loop-at l = record {
  places : ArePlaces l.budget (all_lent l.claims) l.places.items;
  long : length l.answers.items ≡ l.at;
  each : EachAnswers l.budget (all_lent l.claims) (map rule_in l.answers.items);
}
