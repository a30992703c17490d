use Rattle.refutation.specs.Common.{depth_of, certificate_rule}
use Rattle.quorum_checker.specs.Items.{shown}
use Rattle.quorum_checker.specs.Refutes.{claim_state}
use Rattle.quorum_checker.proofs.Outcomes.{started, ok_refutes, err_refutes_not, err_faults, ok_meets}
use Rattle.quorum_checker.proofs.check_lent.Goals as goal

pub returns-clause-refutes : goal.returns-clause-refutes
returns-clause-refutes g c = ok_refutes c.check_rule.result (certificate_rule c.args.certificate.now) (claim_state (shown c.args.left) (shown c.args.right) c.args.clear) (depth_of (certificate_rule c.args.certificate.now)) (started _ _ _ _ _ c.tree.ensures.rule c.in_ok-items.ensures.ok c.check_rule.ensures.answers)

pub returns-clause-accepted : goal.returns-clause-accepted
returns-clause-accepted g c = err_refutes_not c.check_rule.result (certificate_rule c.args.certificate.now) (claim_state (shown c.args.left) (shown c.args.right) c.args.clear) (depth_of (certificate_rule c.args.certificate.now)) (started _ _ _ _ _ c.tree.ensures.rule c.in_ok-items.ensures.ok c.check_rule.ensures.answers)

pub returns-clause-fault : goal.returns-clause-fault
returns-clause-fault g c = err_faults c.check_rule.result (certificate_rule c.args.certificate.now) (claim_state (shown c.args.left) (shown c.args.right) c.args.clear) (depth_of (certificate_rule c.args.certificate.now)) (started _ _ _ _ _ c.tree.ensures.rule c.in_ok-items.ensures.ok c.check_rule.ensures.answers)

pub returns-clause-meets : goal.returns-clause-meets
returns-clause-meets g c = ok_meets c.check_rule.result (certificate_rule c.args.certificate.now) (shown c.args.left) (shown c.args.right) c.args.clear (depth_of (certificate_rule c.args.certificate.now)) (started _ _ _ _ _ c.tree.ensures.rule c.in_ok-items.ensures.ok c.check_rule.ensures.answers)
