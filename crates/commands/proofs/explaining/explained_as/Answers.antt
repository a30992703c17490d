use Rattle.std.proofs.Common.{Bool, subst, sym}
use Rattle.commands.specs.Answer.{Says}
use Rattle.commands.specs.Reports.{ExplainsAs}
use Rattle.commands.specs.Stops.{answer_of}
use Rattle.commands.proofs.explaining.explained_as.Goals as goal

pub returns-then-json : goal.returns-then-json
returns-then-json c = subst (λ (json : Bool). Says (ExplainsAs json c.args.text.now) (answer_of c.reported_text.result)) (sym c.if-json.true) c.reported_text.ensures

pub returns-else-json : goal.returns-else-json
returns-else-json c = subst (λ (json : Bool). Says (ExplainsAs json c.args.text.now) (answer_of c.explained_text.result)) (sym c.if-json.false) c.explained_text.ensures
