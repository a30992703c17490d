use Rattle.std.proofs.Common.{ap, arith, cond, count_by, eqb, ◌+◌, ◌≡◌, ◌∙◌}
use Rattle.std.proofs.lemmas.List.Sums.{sum_by-append}
use Rattle.drivers.proofs.seeking.count_of.Goals as goal

pub loop-rest-preserved : goal.loop-rest-preserved
loop-rest-preserved c =
    let piece = c.split_at.result.0.now in
    let after = c.split_at.result.1.now in
    let parts : count_by (λ b. eqb b c.args.byte) c.loop-rest.rest.now ≡ count_by (λ b. eqb b c.args.byte) piece + count_by (λ b. eqb b c.args.byte) after =
    ap (count_by (λ b. eqb b c.args.byte)) c.split_at.ensures.by_index.0 ∙ sum_by-append (λ b. cond (eqb b c.args.byte) 1 0) piece after in
    omega (arith, parts)
