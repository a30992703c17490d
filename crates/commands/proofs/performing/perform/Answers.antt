use Rattle.std.proofs.Common.{◌∙◌, ◌<◌, ℕ, subst, sym, arith}
use Rattle.commands.proofs.Given.{ends_by}
use Rattle.commands.proofs.JobAnswers.{job_no, job_quiet, job_silent, job_yes, said_by, said_job}
use Rattle.commands.proofs.Says.{ends_below}
use Rattle.commands.proofs.performing.perform.Goals as goal

pub returns-clause-yes : goal.returns-clause-yes
returns-clause-yes g c = λ other has zero.
    let end = ends_below c.finish.ensures.ends (omega arith) in
    job_yes (said_job c.answer-reply.ensures.answers end.1) other has (sym end.2 ∙ zero)

pub returns-clause-no : goal.returns-clause-no
returns-clause-no g c = λ is one.
    let end = ends_below c.finish.ensures.ends (omega arith) in
    job_no c.answer-reply.ensures.answers end.1 is (sym end.2 ∙ one)

pub returns-clause-quiet : goal.returns-clause-quiet
returns-clause-quiet g c = λ other small.
    let end = ends_below c.finish.ensures.ends small in
    end.3.untouched (job_quiet (said_job c.answer-reply.ensures.answers end.1) other (subst (λ (n : ℕ). n < 2) end.2 small))

pub returns-clause-silent : goal.returns-clause-silent
returns-clause-silent g c = λ zero.
    let end = ends_below c.finish.ensures.ends (omega arith) in
    end.3.untouched (job_silent (said_job c.answer-reply.ensures.answers end.1) (sym end.2 ∙ zero))

pub returns-clause-checks : goal.returns-clause-checks
returns-clause-checks g c = λ is. ends_by c.finish.ensures.ends (λ a said. said_by c.answer-reply.ensures.answers said _ is)

pub returns-clause-runs : goal.returns-clause-runs
returns-clause-runs g c = λ is. ends_by c.finish.ensures.ends (λ a said. said_by c.answer-reply.ensures.answers said _ is)

pub returns-clause-fleets : goal.returns-clause-fleets
returns-clause-fleets g c = λ is. ends_by c.finish.ensures.ends (λ a said. said_by c.answer-reply.ensures.answers said _ is)

pub returns-clause-searches : goal.returns-clause-searches
returns-clause-searches g c = λ is. ends_by c.finish.ensures.ends (λ a said. said_by c.answer-reply.ensures.answers said _ is)

pub returns-clause-replaces : goal.returns-clause-replaces
returns-clause-replaces g c = λ options is. ends_by c.finish.ensures.ends (λ a said. said_by c.answer-reply.ensures.answers said _ is)

pub returns-clause-makes : goal.returns-clause-makes
returns-clause-makes g c = λ making is. ends_by c.finish.ensures.ends (λ a said. said_by c.answer-reply.ensures.answers said _ is)

pub returns-clause-begins : goal.returns-clause-begins
returns-clause-begins g c = λ is. ends_by c.finish.ensures.ends (λ a said. said_by c.answer-reply.ensures.answers said _ is)

pub returns-clause-draws : goal.returns-clause-draws
returns-clause-draws g c = λ is none. ends_by c.finish.ensures.ends (λ a said. (said_by c.answer-reply.ensures.answers said _ is).alone none)

pub returns-clause-draws_run : goal.returns-clause-draws_run
returns-clause-draws_run g c = λ is some. ends_by c.finish.ensures.ends (λ a said. (said_by c.answer-reply.ensures.answers said _ is).over some)

pub returns-clause-explains : goal.returns-clause-explains
returns-clause-explains g c = λ is none. ends_by c.finish.ensures.ends (λ a said. ((said_by c.answer-reply.ensures.answers said _ is).alone none).explains)

pub returns-clause-explains_fault : goal.returns-clause-explains_fault
returns-clause-explains_fault g c = λ is some. ends_by c.finish.ensures.ends (λ a said. ((said_by c.answer-reply.ensures.answers said _ is).over some).explains)
