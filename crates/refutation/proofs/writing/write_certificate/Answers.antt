use Rattle.std.proofs.Common.{◌≤◌, ◌∙◌, ap, sym, subst, arith}
use Rattle.serde_json.specs.Data.{depth}
use Rattle.refutation.specs.Certificate.{certificate_rule}
use Rattle.refutation.specs.Ranges.{HasRanges}
use Rattle.refutation.specs.Reading.{certificate_in}
use Rattle.refutation.specs.Writing.{certificate_data}
use Rattle.refutation.proofs.ReadBack.{certificate_in-written}
use Rattle.refutation.proofs.Nests.{certificate-nests}
use Rattle.refutation.proofs.writing.write_certificate.Goals as goal

pub returns-clause-read_back : goal.returns-clause-read_back
returns-clause-read_back g c =
    ap certificate_in (c.in_ok-tree_json.ensures.written ∙ ap certificate_data c.tree.ensures.rule)
    ∙ certificate_in-written (certificate_rule c.args.certificate.now) c.tree.ensures.within (subst HasRanges c.tree.ensures.rule c.in_ok-tree_json.ensures.ranges)

pub returns-clause-nests : goal.returns-clause-nests
returns-clause-nests g c =
    let shallow : depth (certificate_data (certificate_rule c.args.certificate.now)) ≤ 81 = omega (arith, certificate-nests (certificate_rule c.args.certificate.now), c.tree.ensures.depth) in
    subst (λ d. depth d ≤ 81) (sym (c.in_ok-tree_json.ensures.written ∙ ap certificate_data c.tree.ensures.rule)) shallow
