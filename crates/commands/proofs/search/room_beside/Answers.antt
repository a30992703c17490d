use Rattle.std.proofs.Common.{◌∙◌, arith}
use Rattle.commands.proofs.Fitting.{room_is}
use Rattle.commands.proofs.search.room_beside.Goals as goal

pub returns-clause-room : goal.returns-clause-room
returns-clause-room c =
    room_is c.args.text.now c.in_ok-line.line.items c.args.places c.saturating_sub.result c.deref.result.now (c.deref.ensures.value ∙ c.in_ok-certificates.ensures) c.in_ok-line.ensures.line
    (omega (arith, c.saturating_sub.ensures, c.len.ensures, c.in_ok-line.line.ok.0))
