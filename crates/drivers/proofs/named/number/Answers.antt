use Rattle.std.proofs.Common.{drop, length, sym, take, ◌-◌, ◌∙◌}
use Rattle.drivers.proofs.Lines.{rest_is}
use Rattle.drivers.proofs.NamedLines.{one_digit}
use Rattle.drivers.proofs.named.number.Goals as goal

pub returns-in-len1-up : goal.returns-in-len1-up
returns-in-len1-up c =
    let text = c.args.text.now in
    one_digit text (take (length text - 1) (drop 1 text)) c.from.result (sym c.is_ascii_digit.ensures.value ∙ c.if-is_ascii_digit.true) c.from.ensures (rest_is text 1)
