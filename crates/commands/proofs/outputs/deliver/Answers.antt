use Rattle.std.proofs.Common.{inr}
use Rattle.commands.proofs.Failing.{still}
use Rattle.commands.proofs.Given.{delivered}
use Rattle.commands.proofs.outputs.deliver.Goals as goal

pub returns-in-Ok-clause-delivers : goal.returns-in-Ok-clause-delivers
returns-in-Ok-clause-delivers g c =
    delivered g.O.Write.contents g.E.Write.contents (record { status = c.args.status; out = c.args.printed.now; err = c.args.reported.now }) c.print.result c.args.out.now c.print.new.out c.args.err.now c.emit.new.self c.print.new.err
    c.in-Ok.ensures.written c.print.ensures.printed

pub returns-in-Ok-clause-err_written : goal.returns-in-Ok-clause-err_written
returns-in-Ok-clause-err_written g c broken =
    still g.E.Write.contents g.E.FallibleWrite.answers c.args.err.now c.emit.new.self c.args.reported.now c.in-Ok.ensures.written (c.print.ensures.err_written broken)

pub returns-in-Err-clause-err_written : goal.returns-in-Err-clause-err_written
returns-in-Err-clause-err_written g c broken = inr c.in-Err.ensures.reason
