use Rattle.commands.specs.Streams.{unwritten_line}
use Rattle.commands.proofs.Failing.{written_to}
use Rattle.commands.proofs.outputs.complain.Goals as goal

pub returns-clause-reason : goal.returns-clause-reason
returns-clause-reason g c = written_to g.E.Write.contents g.E.FallibleWrite.answers c.args.err.now c.emit.new.self unwritten_line c.emit.result c.emit.ensures.written c.emit.ensures.reason
