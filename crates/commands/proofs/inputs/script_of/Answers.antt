use Rattle.commands.specs.Answers.{file_of}
use Rattle.commands.proofs.Due.{script_stops}
use Rattle.commands.proofs.inputs.script_of.Goals as goal

pub returns-clause-stop : goal.returns-clause-stop
returns-clause-stop g c =
    script_stops (file_of g.S.Read.remaining c.args.name.now c.args.script.now c.contents.new.file) c.in_ok-text.text.items c.as_slice.result.now c.script_in.result c.in_ok-text.ensures.read c.as_slice.ensures.value c.script_in.ensures.stop
