-- The answer of a job to the contents of its files.
use Rattle.std.specs.Prelude.{◌≡◌, ℕ, List, Option, None, IsSome}
use Rattle.commands.specs.Answer.{Answer, IsQuiet}
use Rattle.commands.specs.Answers.{AnswersOf, ChecksTo, File, FleetsTo, RunsTo, file_of, script_name}
use Rattle.commands.specs.Begins.{BeginsTo}
use Rattle.commands.specs.Draws.{DrawsRunTo, DrawsTo}
use Rattle.commands.specs.FaultQuery.{ExplainsJob, IsFileName}
use Rattle.commands.specs.Makes.{MakesTo}
use Rattle.commands.specs.Replaces.{ReplacesTo}
use Rattle.commands.specs.Reports.{ExplainsAs, ExplainsFault}
use Rattle.commands.specs.Searched.{SearchesTo}
use Rattle.commands.specs.ShownName.{shown_name}
use Rattle.commands.specs.declared.action.Action.{Action}
use Rattle.commands.specs.declared.action.Action.TheVariants.{Check, Run, Fleet, Search, Explain, Replace, Make, New, Draw}
use Rattle.commands.specs.declared.action.Job.{Job}
use Rattle.commands.specs.declared.files.Source.{Source}

-- the plan's file, with its name as an explanation prints it
abbrev pub shown_file : {R : Type 0} → (R → Option (List ℕ)) → Job → Source R → Source R → File
shown_file remaining job old new = file_of remaining (shown_name job.plan.now) old new

-- The answer of an explanation without a script. If the word behind it isn't a number, it is about the plan's file.
pub record ExplainsPlan {R : Type 0} (remaining : R → Option (List ℕ)) (job : Job) (old new : Source R)
    (answer : Answer) : Type 0 where
  pub explains : ExplainsJob remaining job old new answer
  pub of_file : IsFileName job.plan.now → AnswersOf (shown_file remaining job old new) (ExplainsAs job.json) answer

-- The answer of an explanation of a script over a plan. With a status below 2 it says nothing to standard error.
pub record ExplainsScript {R : Type 0} (remaining : R → Option (List ℕ)) (job : Job) (old new : Source R)
    (answer : Answer) : Type 0 where
  pub explains : ExplainsFault job.json (shown_file remaining job old new) answer
  pub quiet : IsQuiet answer

-- the answer of an explanation, without a script or with one
pub record ExplainsBy {R N : Type 0} (remaining : R → Option (List ℕ)) (job : Job) (old new : Source R)
    (script : Option N) (answer : Answer) : Type 0 where
  pub alone : script ≡ None → ExplainsPlan remaining job old new answer
  pub over : IsSome script → ExplainsScript remaining job old new answer

-- the answer of a drawing to these files, without a script or with one
pub record DrawsBy {N : Type 0} (plan script : File) (name : Option N) (answer : Answer) : Type 0 where
  pub alone : name ≡ None → AnswersOf plan DrawsTo answer
  pub over : IsSome name → AnswersOf plan (DrawsRunTo script) answer

-- the answer of an action to the files of a job
abbrev pub AnswersBy : {R : Type 0} → (R → Option (List ℕ)) → Job → Source R → Source R → File → Action → Answer
    → Type 0
AnswersBy remaining job old new script Check = AnswersOf (file_of remaining job.plan.now old new) ChecksTo
AnswersBy remaining job old new script Run = AnswersOf (file_of remaining job.plan.now old new) (RunsTo script)
AnswersBy remaining job old new script Fleet = AnswersOf (file_of remaining job.plan.now old new) (FleetsTo script)
AnswersBy remaining job old new script Search = AnswersOf (file_of remaining job.plan.now old new) SearchesTo
AnswersBy remaining job old new script Explain = ExplainsBy remaining job old new job.script
AnswersBy remaining job old new script (Replace options) =
    AnswersOf (file_of remaining job.plan.now old new) (ReplacesTo options)
AnswersBy remaining job old new script (Make making) = AnswersOf (file_of remaining job.plan.now old new) MakesTo
AnswersBy remaining job old new script New = BeginsTo job.request
AnswersBy remaining job old new script Draw = DrawsBy (file_of remaining job.plan.now old new) script job.script

-- the answer of a job to its files
pub record AnswersJob {R S : Type 0} (of_plan : R → Option (List ℕ)) (of_script : S → Option (List ℕ)) (job : Job)
    (old new : Source R) (script_old script_new : Source S) (answer : Answer) : Type 0 where
  pub by_action : AnswersBy of_plan job old new (file_of of_script (script_name job) script_old script_new) job.action
      answer
