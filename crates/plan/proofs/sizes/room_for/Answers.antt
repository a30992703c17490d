use Rattle.std.proofs.Common.{subst, option_map}
use Rattle.std.proofs.lemmas.List.Elements.{All-more}
use Rattle.refutation.specs.Common.{certificate_rule}
use Rattle.plan.specs.Certificates.{IsReadBack}
use Rattle.plan.proofs.Rooms.{all_through}
use Rattle.plan.proofs.sizes.room_for.Goals as goal

pub loop-certificate-preserved : goal.loop-certificate-preserved
loop-certificate-preserved c =
    All-more (λ o. IsReadBack (option_map certificate_rule o)) c.args.certificates.now c.loop-certificate.certificate-index c.certificate-item.result c.loop-certificate-test.true c.loop-certificate.invariant
    (subst (λ o. IsReadBack (option_map certificate_rule o)) c.certificate-item.is c.with_certificate-room.ensures)

pub returns : goal.returns
returns c = all_through (λ o. IsReadBack (option_map certificate_rule o)) c.args.certificates.now c.loop-certificate.certificate-index c.loop-certificate-test.false c.loop-certificate.invariant
