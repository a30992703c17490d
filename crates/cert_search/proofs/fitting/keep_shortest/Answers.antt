use Rattle.std.proofs.Common.{ℕ, ◌∙◌, List, ap, arith, get_or, map, nat_le}
use Rattle.cert_search.specs.Answers.{rule_in}
use Rattle.cert_search.specs.Kept.{length_up_to}
use Rattle.cert_search.specs.Lengths.{length_in}
use Rattle.cert_search.proofs.Kept.{one_seen, all_kept}
use Rattle.cert_search.proofs.fitting.keep_shortest.Goals as goal

pub loop-at-preserved : goal.loop-at-preserved
loop-at-preserved c =
    let at = c.loop-at.at in
    let room = c.args.room in
    one_seen room c.in_ok-lengths.lengths.items at c.args.certificates.now.items c.loop-at.certificates.items c.keep_if.new.certificates.items c.is_kept-stays.result c.loop-at.invariant
    (c.in_ok-lengths.ensures ∙ ap (λ cs. map length_in (map rule_in cs)) c.deref.ensures.value)
    (c.is_kept-stays.ensures ∙ ap (λ (ls : List ℕ). nat_le (length_up_to (get_or ls at 0) at 0 ls) room) c.deref-in-loop-at.ensures.value)
    c.keep_if.ensures

pub returns-clause-kept : goal.returns-clause-kept
returns-clause-kept c =
    all_kept c.args.room c.in_ok-lengths.lengths.items c.loop-at.at c.args.certificates.now.items c.loop-at.certificates.items c.loop-at.invariant
    (c.in_ok-lengths.ensures ∙ ap (λ cs. map length_in (map rule_in cs)) c.deref.ensures.value) (omega (arith, c.loop-at-test.false, c.loop-at.invariant.as_many))
