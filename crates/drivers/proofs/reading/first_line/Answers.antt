use Rattle.std.proofs.Common.{drop, length, take, ◌+◌, ◌-◌}
use Rattle.drivers.proofs.Lines.{is_some, rest_is, split_at_newline, split_without_newline}
use Rattle.drivers.proofs.reading.first_line.Goals as goal

pub returns-in-Some : goal.returns-in-Some
returns-in-Some c =
    let text = c.args.text.now in
    let end = c.in-Some.end in
    λ some. split_at_newline text (take (length text - (end + 1)) (drop (end + 1) text)) end c.in-Some.ensures (rest_is text (end + 1))

pub returns-in-None : goal.returns-in-None
returns-in-None c =
    let text = c.args.text.now in
    λ some. split_without_newline text (is_some text some) c.in-None.ensures
