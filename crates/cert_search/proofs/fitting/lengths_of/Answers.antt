use Rattle.cert_search.proofs.Kept.{lengths_more, lengths_all}
use Rattle.cert_search.proofs.fitting.lengths_of.Goals as goal

pub loop-certificate-preserved : goal.loop-certificate-preserved
loop-certificate-preserved c =
    lengths_more c.args.certificates.now c.loop-certificate.certificate-index c.certificate-item.result c.loop-certificate.lengths.items c.push.new.self.items _ c.length_in.result
    c.loop-certificate-test.true c.certificate-item.is c.in_ok-push.ensures.items c.length_in.ensures c.loop-certificate.invariant

pub returns : goal.returns
returns c = lengths_all c.args.certificates.now c.loop-certificate.certificate-index c.loop-certificate.lengths.items _ c.loop-certificate-test.false c.loop-certificate.invariant
