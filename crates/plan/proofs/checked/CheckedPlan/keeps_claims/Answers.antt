use Rattle.plan.proofs.KeepsClaims.{keeps-claims, write-sets}
use Rattle.plan.proofs.checked.CheckedPlan.keeps_claims.Goals as goal

pub returns-clause-claims : goal.returns-clause-claims
returns-clause-claims c = keeps-claims c.claims_certify.ensures c.no_fault_refutes.ensures.refutes c.refuted_claim_meets.ensures c.args.self.now.plan c.args.self.now.checked

pub returns-clause-write_sets : goal.returns-clause-write_sets
returns-clause-write_sets c = write-sets c.claims_certify.ensures c.no_fault_refutes.ensures.refutes c.refuted_claim_meets.ensures c.args.self.now.plan c.args.self.now.checked
