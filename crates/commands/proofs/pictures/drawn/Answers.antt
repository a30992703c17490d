use Rattle.commands.specs.Answers.{file_of}
use Rattle.commands.specs.Draws.{DrawsTo}
use Rattle.commands.specs.Stops.{answer_of}
use Rattle.commands.proofs.Due.{text_due}
use Rattle.commands.proofs.pictures.drawn.Goals as goal

pub returns-clause-answers : goal.returns-clause-answers
returns-clause-answers g c =
    text_due DrawsTo (file_of g.P.Read.remaining c.args.name.now c.args.plan.now c.contents.new.file) c.in_ok-text.text.items c.as_slice.result.now (answer_of c.drawn_text.result) c.in_ok-text.ensures.read c.as_slice.ensures.value c.drawn_text.ensures
