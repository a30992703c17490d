use Rattle.std.proofs.Common.{◌∙◌, sym}
use Rattle.quorum_checker.proofs.Disjoint.{apart_of, of_apart}
use Rattle.quorum_checker.proofs.showing.are_disjoint.Goals as goal

pub returns-clause-disjoint : goal.returns-clause-disjoint
returns-clause-disjoint c = λ e. apart_of c.args.one c.args.other c.complement.result c.complement.ensures (sym c.is_subset.ensures ∙ e)

pub returns-clause-found : goal.returns-clause-found
returns-clause-found c = λ apart. c.is_subset.ensures ∙ of_apart c.args.one c.args.other c.complement.result c.complement.ensures c.contains.ensures.below apart
