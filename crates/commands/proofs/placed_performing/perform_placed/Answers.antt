use Rattle.commands.proofs.JobAnswers.{said_by}
use Rattle.commands.proofs.Placed.{ends_in_by}
use Rattle.commands.proofs.placed_performing.perform_placed.Goals as goal

pub returns-clause-searches : goal.returns-clause-searches
returns-clause-searches g c = λ is. ends_in_by c.place.ensures.ends (λ a said. said_by c.answer-reply.ensures.answers said _ is)

pub returns-clause-replaces : goal.returns-clause-replaces
returns-clause-replaces g c = λ options is. ends_in_by c.place.ensures.ends (λ a said. said_by c.answer-reply.ensures.answers said _ is)

pub returns-clause-begins : goal.returns-clause-begins
returns-clause-begins g c = λ is. ends_in_by c.place.ensures.ends (λ a said. said_by c.answer-reply.ensures.answers said _ is)

pub returns-clause-draws : goal.returns-clause-draws
returns-clause-draws g c = λ is none. ends_in_by c.place.ensures.ends (λ a said. (said_by c.answer-reply.ensures.answers said _ is).alone none)

pub returns-clause-draws_run : goal.returns-clause-draws_run
returns-clause-draws_run g c = λ is some. ends_in_by c.place.ensures.ends (λ a said. (said_by c.answer-reply.ensures.answers said _ is).over some)
