use Rattle.std.proofs.Common.{IfOk, arith, subst}
use Rattle.plan_edit.specs.Words.{AddsNamed, AddsText}
use Rattle.plan_edit.proofs.Spans.{adds_last, adds_more}
use Rattle.plan_edit.proofs.word_reading.+with_words.Goals as goal

pub returns-in-None : goal.returns-in-None
returns-in-None t c =
    adds_last c.args.text.now c.args.members c.with_range.result (c.in-None.ensures.byte (omega arith) (λ w o found. found)) c.with_range.ensures

pub returns-in_ok-more-in-Some : goal.returns-in_ok-more-in-Some
returns-in_ok-more-in-Some t c =
    let parts = c.in-Some.ensures.byte (omega arith) (λ w o found. found) in
    adds_more c.args.text.now c.args.members c.in_ok-more-in-Some.more c.with_words.result parts.2 (subst (λ w. AddsNamed w c.args.members c.in_ok-more-in-Some.more) parts.0 c.in_ok-more-in-Some.ensures)
    (subst (λ w. IfOk c.with_words.result (AddsText w c.in_ok-more-in-Some.more)) parts.1 c.with_words.ensures)
