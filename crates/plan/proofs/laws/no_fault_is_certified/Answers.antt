use Rattle.plan.proofs.BothWays.{certified, fault_free}
use Rattle.plan.proofs.laws.no_fault_is_certified.Goals as goal

pub returns-clause-certified : goal.returns-clause-certified
returns-clause-certified c = certified c.no_fault_refutes.ensures.refutes c.no_fault_refutes.ensures.accepted

pub returns-clause-fault_free : goal.returns-clause-fault_free
returns-clause-fault_free c = fault_free c.no_fault_refutes.ensures.refutes c.no_fault_refutes.ensures.accepted
