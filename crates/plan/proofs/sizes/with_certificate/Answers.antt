use Rattle.std.proofs.Common.{subst, sym, option_map}
use Rattle.refutation.specs.Common.{certificate_rule}
use Rattle.plan.specs.Certificates.{IsReadBack}
use Rattle.plan.proofs.Rooms.{none_back, some_back}
use Rattle.plan.proofs.sizes.with_certificate.Goals as goal
use Rattle.std.proofs.lemmas.Grind.{common_steps}
use Rattle.std.proofs.Common.{arith}

pub returns-in-None : goal.returns-in-None
returns-in-None c = subst (λ o. IsReadBack (option_map certificate_rule o)) (sym c.in-None.is) none_back

pub returns-in-Some : goal.returns-in-Some
returns-in-Some c = grind (arith, common_steps, c.in-Some.is, c.tree.ensures.within, c.tree.ensures.depth, c.tree.ensures.rule, c.with_rule.ensures, option_map, some_back)
