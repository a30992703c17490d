use Rattle.std.proofs.Common.{◌≡◌, subst}
use Rattle.refutation.specs.Common.{rule_of}
use Rattle.quorum_checker.specs.Claim.{first_state}
use Rattle.quorum_checker.specs.Refutes.{Refutes}
use Rattle.quorum_expr.specs.Common.{formula_of}
use Rattle.cert_search.specs.Plain.{plain_rule}
use Rattle.cert_search.proofs.one.plain.Goals as goal

pub returns-clause-found : goal.returns-clause-found
returns-clause-found g c =
    let same : plain_rule (formula_of c.args.claim.now.left) (formula_of c.args.claim.now.right) ≡ rule_of c.in_ok-tree.tree = cc (c.in_ok-tree.ensures.rule) in
    λ plain. c.certified.ensures.found c.in_ok-tree.ensures.within (subst (λ r. Refutes r (first_state c.args.claim.now)) same plain)
