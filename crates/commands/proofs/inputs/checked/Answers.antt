use Rattle.commands.specs.Answers.{file_of}
use Rattle.commands.proofs.Due.{text_stops}
use Rattle.commands.proofs.inputs.checked.Goals as goal

pub returns-clause-stop : goal.returns-clause-stop
returns-clause-stop g c =
    text_stops (file_of g.P.Read.remaining c.args.name.now c.args.plan.now c.contents.new.file) c.in_ok-text.text.items c.as_slice.result.now c.checked_text.result c.in_ok-text.ensures.read c.as_slice.ensures.value c.checked_text.ensures.stop
