use Rattle.plan.specs.Common.{all_lent}
use Rattle.cert_search.proofs.searching.answer.Goals as goal

pub returns-in_err-claim_in-in-None-clause-places : goal.returns-in_err-claim_in-in-None-clause-places
returns-in_err-claim_in-in-None-clause-places c = c.take_out.ensures.places c.args.budget (all_lent c.args.claims.now) c.requires.places

pub returns-in-Some-clause-places : goal.returns-in-Some-clause-places
returns-in-Some-clause-places c = c.take_out.ensures.places c.args.budget (all_lent c.args.claims.now) c.requires.places

pub returns-in-Some-clause-answer : goal.returns-in-Some-clause-answer
returns-in-Some-clause-answer c = c.in-Some.ensures.answer c.args.budget (all_lent c.args.claims.now) c.requires.places

pub returns-in_ok-claim_in-in-None-clause-places : goal.returns-in_ok-claim_in-in-None-clause-places
returns-in_ok-claim_in-in-None-clause-places c = c.take_out.ensures.places c.args.budget (all_lent c.args.claims.now) c.requires.places
