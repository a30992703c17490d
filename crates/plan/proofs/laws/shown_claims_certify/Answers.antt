use Rattle.plan.specs.WithCertificates.{with_certificates}
use Rattle.plan.proofs.Certifies.{certifies}
use Rattle.plan.proofs.laws.shown_claims_certify.Goals as goal

pub returns-clause-certified : goal.returns-clause-certified
returns-clause-certified c = certifies

pub returns-clause-fault_free : goal.returns-clause-fault_free
returns-clause-fault_free c = λ plan claims rules listed shown. c.no_fault_is_certified.ensures.fault_free (with_certificates plan rules) (certifies plan claims rules listed shown)
