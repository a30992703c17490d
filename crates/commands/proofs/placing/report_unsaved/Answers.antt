use Rattle.std.proofs.Common.{refl, ◌∙◌}
use Rattle.commands.specs.Places.IsUnsaved.{file}
use Rattle.commands.proofs.Failing.{written_to}
use Rattle.commands.proofs.Placed.{says_line}
use Rattle.commands.proofs.placing.report_unsaved.Goals as goal

pub returns-in-Ok-clause-line : goal.returns-in-Ok-clause-line
returns-in-Ok-clause-line g c =
    says_line g.E.Write.contents _ c.args.err.now c.emit.new.self c.as_bytes.result.now c.emit.result c.emit.ensures.written c.emit.ensures.failed
    (file c.args.name.now refl (c.as_bytes.ensures.value ∙ c.in-Ok.ensures.ok))

pub returns-in-Ok-clause-reason : goal.returns-in-Ok-clause-reason
returns-in-Ok-clause-reason g c = written_to g.E.Write.contents g.E.FallibleWrite.answers c.args.err.now c.emit.new.self c.as_bytes.result.now c.emit.result c.emit.ensures.written c.emit.ensures.reason
