use Rattle.std.proofs.Common.{Ok, subst}
use Rattle.commands.specs.Failures.{WasAnswered}
use Rattle.commands.specs.Failures.WriteFails.{refused, untaken}
use Rattle.commands.proofs.outputs.write_part.Goals as goal

pub returns-then-count-eq0-clause-failed : goal.returns-then-count-eq0-clause-failed
returns-then-count-eq0-clause-failed g c =
    untaken c.args.bytes.now c.requires (subst (λ n. WasAnswered g.W.FallibleWrite.answers c.args.bytes.now (Ok n)) c.if-count-eq0.true c.in-Ok.ensures.answered)

pub returns-in_default-clause-failed : goal.returns-in_default-clause-failed
returns-in_default-clause-failed g c = refused c.args.bytes.now c.in_default.field-0 c.in_default.ensures.answered
