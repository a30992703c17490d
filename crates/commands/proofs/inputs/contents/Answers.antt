use Rattle.commands.specs.Answers.{file_of}
use Rattle.commands.specs.Stops.{stop_answer}
use Rattle.commands.proofs.Due.{unread_due}
use Rattle.commands.proofs.inputs.contents.Goals as goal

pub returns-in-Err-Unreadable-clause-stop : goal.returns-in-Err-Unreadable-clause-stop
returns-in-Err-Unreadable-clause-stop g c =
    unread_due (λ _ _. ⊥) (file_of g.R.Read.remaining c.args.name.now c.args.file.now c.read_all.new.self) (stop_answer c.unreadable.result) (c.read_all.ensures.failed (cc)) c.unreadable.ensures
