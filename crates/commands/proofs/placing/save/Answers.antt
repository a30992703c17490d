use Rattle.std.proofs.Common.{inr, refl}
use Rattle.commands.specs.Places.IsUnsaved.{output}
use Rattle.commands.specs.Places.Saves.{saved, unsaved}
use Rattle.commands.specs.Streams.{unwritten_line}
use Rattle.commands.proofs.Failing.{still}
use Rattle.commands.proofs.Placed.{said_after}
use Rattle.commands.proofs.placing.save.Goals as goal

pub returns-in_default-clause-saves : goal.returns-in_default-clause-saves
returns-in_default-clause-saves g c = unsaved refl refl unwritten_line (output refl) (inr c.in_default.ensures.failed)

pub returns-in_default-clause-err_written : goal.returns-in_default-clause-err_written
returns-in_default-clause-err_written g c broken = inr c.in_default.ensures.reason

pub returns-in-Ok-write_whole-clause-saves : goal.returns-in-Ok-write_whole-clause-saves
returns-in-Ok-write_whole-clause-saves g c = saved refl c.in-Ok-write_whole.ensures.written c.in-Ok.ensures.written

pub returns-in-Err-clause-saves : goal.returns-in-Err-clause-saves
returns-in-Err-clause-saves g c =
    let says = c.report_unsaved.ensures.line in
    unsaved refl c.in-Err.ensures.kept says.line says.why (said_after g.E.Write.contents c.args.err.now c.emit.new.self c.report_unsaved.new.err c.args.notes.now says.line c.in-Ok.ensures.written says.said)

pub returns-in-Err-clause-err_written : goal.returns-in-Err-clause-err_written
returns-in-Err-clause-err_written g c broken =
    still g.E.Write.contents g.E.FallibleWrite.answers c.args.err.now c.emit.new.self c.args.notes.now c.in-Ok.ensures.written (c.report_unsaved.ensures.reason broken)
