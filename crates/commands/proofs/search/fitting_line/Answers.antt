use Rattle.std.proofs.Common.{arith}
use Rattle.commands.proofs.Fitting.{fits_in_part, of_any}
use Rattle.commands.proofs.search.fitting_line.Goals as goal

pub returns-in-Ok-clause-fitted : goal.returns-in-Ok-clause-fitted
returns-in-Ok-clause-fitted c =
    of_any c.plan_line-in-Ok.result
    (fits_in_part c.args.text.now c.in_ok-line.line.items c.len-2.result c.in_ok-room.room c.deref.result.now c.args.certificates.now.items c.keep_shortest.new.certificates.items c.deref.ensures.value c.in_ok-line.ensures.line
    (omega (arith, c.if-len.false, c.len.ensures, c.in_ok-line.line.ok.0)) (omega (arith, c.len-2.ensures, c.args.certificates.now.ok.0)) c.in_ok-room.ensures.room c.in-Ok.ensures.kept)
