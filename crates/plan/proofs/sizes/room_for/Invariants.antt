use Rattle.std.proofs.Common.{take, All, option_map}
use Rattle.refutation.specs.Common.{certificate_rule}
use Rattle.plan.specs.Certificates.{IsReadBack}
use Rattle.plan.proofs.sizes.room_for.Given as goal

abbrev pub invariant-loop-certificate : goal.invariant-loop-certificate
invariant-loop-certificate l = All (λ c. IsReadBack (option_map certificate_rule c)) (take l.certificate-index l.certificates)
