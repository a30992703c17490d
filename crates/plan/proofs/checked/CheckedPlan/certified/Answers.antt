use Rattle.plan.proofs.KeepsClaims.{certified}
use Rattle.plan.proofs.checked.CheckedPlan.certified.Goals as goal

pub returns : goal.returns
returns c = certified c.claims_certify.ensures c.no_fault_refutes.ensures.refutes c.refuted_claim_meets.ensures c.args.self.now.plan c.args.self.now.checked
