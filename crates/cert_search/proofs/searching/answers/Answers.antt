use Rattle.std.proofs.Common.{◌∷◌, [], length, map, ap, sym, ◌∙◌, arith, length-append}
use Rattle.plan.specs.Common.{all_lent, lent_placed}
use Rattle.std.proofs.lemmas.List.{length-map}
use Rattle.cert_search.specs.Answers.{rule_in}
use Rattle.cert_search.proofs.Rows.{map_len, map_push}
use Rattle.cert_search.proofs.Places.{one_more}
use Rattle.cert_search.proofs.searching.answers.Goals as goal

pub loop-at-preserved : goal.loop-at-preserved
loop-at-preserved c = record {
  places = c.in_ok-answer.ensures.places;
  long = omega (arith, ap length c.in_ok-push.ensures.items, length-append c.loop-at.answers.items (c.in_ok-answer.field-0 ∷ []), c.loop-at.invariant.long);
  each = one_more c.args.budget (all_lent c.args.claims.now) (map rule_in c.loop-at.answers.items) (map rule_in c.push.new.self.items) c.loop-at.at (rule_in c.in_ok-answer.field-0) (ap (map rule_in) c.in_ok-push.ensures.items ∙ map_push rule_in c.loop-at.answers.items c.in_ok-answer.field-0) (map_len rule_in c.loop-at.answers.items ∙ c.loop-at.invariant.long) c.in_ok-answer.ensures.answer c.loop-at.invariant.each;
}

pub returns-clause-answers : goal.returns-clause-answers
returns-clause-answers c = record {
  as_many = map_len rule_in c.loop-at.answers.items ∙ c.loop-at.invariant.long ∙ omega (arith) ∙ sym (length-map c.args.claims.now lent_placed);
  each = c.loop-at.invariant.each;
}
