use Rattle.std.proofs.Common.{◌∙◌, ap, sym, rules, length}
use Rattle.std.specs.Str.{IsUtf8}
use Rattle.drivers.specs.Grammar.{action_of}
use Rattle.drivers.specs.Script.{kept_in, with_line}
use Rattle.drivers.specs.Seen.{seen}
use Rattle.drivers.proofs.Scripts.{action_seen}
use Rattle.drivers.proofs.reading.add_line.Goals as goal

pub returns-in_ok-keep-in-Ok : goal.returns-in_ok-keep-in-Ok
returns-in_ok-keep-in-Ok c =
    let utf8 : IsUtf8 c.args.line.now = search rules in
    let found = action_seen (action_of (length c.args.events.now.items) c.args.line.now) c.args.events.now.items (seen c.in-Ok.line) (rw c.as_slice.ensures.value at c.in-Ok.ensures) in
    (found.0, utf8, found.1, c.in_ok-keep-in-Ok.ensures ∙ ap (with_line (kept_in c.args.script.now c.args.events.now.items)) (sym found.2))
