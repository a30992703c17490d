-- What follows from the answer of a job.
use Rattle.std.proofs.Common.{◌≡◌, ◌⊎◌, inl, inr, refl, subst, sym, ℕ, ◌≤◌, List, [], false, Option, Some, None, codes, arith, ◌≢◌}
use Rattle.commands.specs.Answer.{Answer, IsQuiet, IsSaid, no_memory}
use Rattle.commands.specs.Answers.{AnswersOf, ChecksTo, File, FleetsTo, PrintsFleetOf, PrintsScript, RunsTo, file_of, script_name}
use Rattle.commands.specs.Answers.AnswersOf.{unmade}
use Rattle.commands.specs.Begins.BeginsTo.{unusable}
use Rattle.commands.specs.Draws.{DrawsRunTo, DrawsTo}
use Rattle.commands.specs.FaultQuery.{ExplainsJob, HasFile, IsFileName}
use Rattle.commands.specs.FaultQuery.AnswersNumber.{unmade as unmade_number}
use Rattle.commands.specs.FaultQuery.ExplainsJob.{of_file, of_number}
use Rattle.commands.specs.Held.{HoldsCertified, HoldsFault}
use Rattle.commands.specs.JobAnswers.{AnswersBy, AnswersJob, DrawsBy, ExplainsBy, ExplainsPlan, ExplainsScript, shown_file}
use Rattle.commands.specs.Jobs.{prints_plan}
use Rattle.commands.specs.Makes.{MakesTo}
use Rattle.commands.specs.Replaces.{ReplacesTo}
use Rattle.commands.specs.Reports.{ExplainsAs}
use Rattle.commands.specs.Searched.{SearchesTo}
use Rattle.commands.specs.declared.action.Action.{Action}
use Rattle.commands.specs.declared.action.Action.TheVariants.{Check, Run, Fleet, Search, Explain, Replace, Make, New, Draw}
use Rattle.commands.specs.declared.action.Job.{Job}
use Rattle.commands.specs.declared.files.Source.{Source}
use Rattle.commands.proofs.ExplainedScripts.{as_report, yes_explained}
use Rattle.commands.proofs.Quiet.{quiet_begun, quiet_both, quiet_checked, quiet_drawn, quiet_job, quiet_made, quiet_of, quiet_replaced}
use Rattle.commands.proofs.Says.{certified_by, explained_yes, no_due, search_silent, yes_of}

-- ---- the answer of an action

pub of_action : {R S : Type 0} {of_plan : R → Option (List ℕ)} {of_script : S → Option (List ℕ)} {job : Job} {old new : Source R} {script_old script_new : Source S} {a : Answer} (action : Action) → job.action ≡ action
    → AnswersBy of_plan job old new (file_of of_script (script_name job) script_old script_new) action a → AnswersJob of_plan of_script job old new script_old script_new a
of_action {of_plan = of_plan} {of_script = of_script} {job = job} {old = old} {new = new} {script_old = script_old} {script_new = script_new} {a = a} action is due =
    record { by_action = subst (λ (x : Action). AnswersBy of_plan job old new (file_of of_script (script_name job) script_old script_new) x a) (sym is) due }

-- without a script, and with one
pub drawn_alone : {N : Type 0} {plan script : File} {name : Option N} {a : Answer} → name ≡ None → AnswersOf plan DrawsTo a → DrawsBy plan script name a
drawn_alone is due = record { alone = λ none. due; over = λ some. absurd cc }

pub drawn_over : {N : Type 0} {plan script : File} {name : Option N} {a : Answer} {x : N} → name ≡ Some x → AnswersOf plan (DrawsRunTo script) a → DrawsBy plan script name a
drawn_over is due = record { alone = λ none. absurd cc; over = λ some. due }

pub explained_alone : {R N : Type 0} {remaining : R → Option (List ℕ)} {job : Job} {old new : Source R} {name : Option N} {a : Answer} → name ≡ None → ExplainsPlan remaining job old new a → ExplainsBy remaining job old new name a
explained_alone is due = record { alone = λ none. due; over = λ some. absurd cc }

pub explained_over : {R N : Type 0} {remaining : R → Option (List ℕ)} {job : Job} {old new : Source R} {name : Option N} {a : Answer} {x : N} → name ≡ Some x → ExplainsScript remaining job old new a → ExplainsBy remaining job old new name a
explained_over is due = record { alone = λ none. absurd cc; over = λ some. due }

-- ---- running out of memory

memory_job : {R : Type 0} (remaining : R → Option (List ℕ)) (job : Job) (old new : Source R) (a : Answer) → ExplainsJob remaining job old new a → ExplainsJob remaining job old new no_memory
memory_job remaining job old new a (of_number number is due) = of_number number is (unmade_number refl)
memory_job remaining job old new a (of_file is due) = of_file is (unmade refl)

memory_by : {R : Type 0} (remaining : R → Option (List ℕ)) (job : Job) (old new : Source R) (script : File) (action : Action) (a : Answer) → AnswersBy remaining job old new script action a → AnswersBy remaining job old new script action no_memory
memory_by remaining job old new script Explain a due = record {
  alone = λ none. record { explains = memory_job remaining job old new a (due.alone none).explains; of_file = λ is. unmade refl };
  over = λ some. record { explains = as_report job.json (shown_file remaining job old new) no_memory (unmade refl); quiet = λ small. absurd (omega arith) };
}
memory_by remaining job old new script New a due = unusable (codes "input: 9 NoMemory\n") refl
memory_by remaining job old new script Draw a due = record { alone = λ none. unmade refl; over = λ some. unmade refl }
memory_by remaining job old new script action a due = unmade refl

-- what is said where this is the answer
pub said_job : {R S : Type 0} {of_plan : R → Option (List ℕ)} {of_script : S → Option (List ℕ)} {job : Job} {old new : Source R} {script_old script_new : Source S} {a said : Answer}
    → AnswersJob of_plan of_script job old new script_old script_new a → IsSaid a said → AnswersJob of_plan of_script job old new script_old script_new said
said_job {of_plan = of_plan} {of_script = of_script} {job = job} {old = old} {new = new} {script_old = script_old} {script_new = script_new} due (inl is) =
    subst (AnswersJob of_plan of_script job old new script_old script_new) (sym is) due
said_job {of_plan = of_plan} {of_script = of_script} {job = job} {old = old} {new = new} {script_old = script_old} {script_new = script_new} {a = a} due (inr out) =
    let script = file_of of_script (script_name job) script_old script_new in
    subst (AnswersJob of_plan of_script job old new script_old script_new) (sym out) (record { by_action = memory_by of_plan job old new script job.action a due.by_action })

-- the same of a job with this action
pub said_by : {R S : Type 0} {of_plan : R → Option (List ℕ)} {of_script : S → Option (List ℕ)} {job : Job} {old new : Source R} {script_old script_new : Source S} {a said : Answer}
    → AnswersJob of_plan of_script job old new script_old script_new a → IsSaid a said → (action : Action) → job.action ≡ action → AnswersBy of_plan job old new (file_of of_script (script_name job) script_old script_new) action said
said_by {of_plan = of_plan} {of_script = of_script} {job = job} {old = old} {new = new} {script_old = script_old} {script_new = script_new} {said = said} due h action is =
    subst (λ (x : Action). AnswersBy of_plan job old new (file_of of_script (script_name job) script_old script_new) x said) is (said_job due h).by_action

-- ---- what a status says

yes_explains : {R N : Type 0} (remaining : R → Option (List ℕ)) (job : Job) (old new : Source R) (name : Option N) (a : Answer) → ExplainsBy remaining job old new name a → (name ≡ None → IsFileName job.plan.now) → a.status ≡ 0
    → HoldsCertified remaining old
yes_explains remaining job old new None a due has zero = yes_of (ExplainsAs job.json) (shown_file remaining job old new) a (λ text. explained_yes job.json text a) ((due.alone refl).of_file (has refl)) zero
yes_explains remaining job old new (Some name) a due has zero = yes_explained job.json (shown_file remaining job old new) a (due.over refl).explains zero

yes_by : {R : Type 0} (remaining : R → Option (List ℕ)) (job : Job) (old new : Source R) (script : File) (action : Action) (a : Answer) → AnswersBy remaining job old new script action a → prints_plan action ≡ false
    → (action ≡ Explain → job.script ≡ None → IsFileName job.plan.now) → a.status ≡ 0 → HoldsCertified remaining old
yes_by remaining job old new script Check a due other has zero = yes_of ChecksTo (file_of remaining job.plan.now old new) a (λ text. certified_by text a) due zero
yes_by remaining job old new script Run a due other has zero = yes_of (RunsTo script) (file_of remaining job.plan.now old new) a (λ text. certified_by text a) due zero
yes_by remaining job old new script Fleet a due other has zero = yes_of (FleetsTo script) (file_of remaining job.plan.now old new) a (λ text. certified_by text a) due zero
yes_by remaining job old new script Explain a due other has zero = yes_explains remaining job old new job.script a due (has refl) zero
yes_by remaining job old new script (Make making) a due other has zero = yes_of MakesTo (file_of remaining job.plan.now old new) a (λ text. certified_by text a) due zero
yes_by remaining job old new script action a due other has zero = absurd cc

pub job_yes : {R S : Type 0} {of_plan : R → Option (List ℕ)} {of_script : S → Option (List ℕ)} {job : Job} {old new : Source R} {script_old script_new : Source S} {a : Answer}
    → AnswersJob of_plan of_script job old new script_old script_new a → prints_plan job.action ≡ false → HasFile job → a.status ≡ 0 → HoldsCertified of_plan old
job_yes {of_plan = of_plan} {of_script = of_script} {job = job} {old = old} {new = new} {script_old = script_old} {script_new = script_new} {a = a} due other has zero =
    yes_by of_plan job old new (file_of of_script (script_name job) script_old script_new) job.action a due.by_action other has zero

-- ---- what is quiet

quiet_explains : {R N : Type 0} (remaining : R → Option (List ℕ)) (job : Job) (old new : Source R) (name : Option N) (a : Answer) → ExplainsBy remaining job old new name a → IsQuiet a
quiet_explains remaining job old new None a due = quiet_job remaining job old new a (due.alone refl).explains
quiet_explains remaining job old new (Some name) a due = (due.over refl).quiet

quiet_draws : {N : Type 0} (plan script : File) (name : Option N) (a : Answer) → DrawsBy plan script name a → IsQuiet a
quiet_draws plan script None a due = quiet_of DrawsTo plan a (λ text. quiet_drawn text a) (due.alone refl)
quiet_draws plan script (Some name) a due = quiet_of (DrawsRunTo script) plan a (λ text. quiet_both (λ plan script status text. status ≤ 1) script text a) (due.over refl)

-- an answer below 2 of any job but a search says nothing to standard error
quiet_by : {R : Type 0} (remaining : R → Option (List ℕ)) (job : Job) (old new : Source R) (script : File) (action : Action) (a : Answer) → AnswersBy remaining job old new script action a
    → ((action ≡ Search) × AnswersOf (file_of remaining job.plan.now old new) SearchesTo a) ⊎ IsQuiet a
quiet_by remaining job old new script Check a due = inr (quiet_of ChecksTo (file_of remaining job.plan.now old new) a (λ text. quiet_checked text a) due)
quiet_by remaining job old new script Run a due = inr (quiet_of (RunsTo script) (file_of remaining job.plan.now old new) a (λ text. quiet_both PrintsScript script text a) due)
quiet_by remaining job old new script Fleet a due = inr (quiet_of (FleetsTo script) (file_of remaining job.plan.now old new) a (λ text. quiet_both PrintsFleetOf script text a) due)
quiet_by remaining job old new script Search a due = inl (refl, due)
quiet_by remaining job old new script Explain a due = inr (quiet_explains remaining job old new job.script a due)
quiet_by remaining job old new script (Replace options) a due = inr (quiet_of (ReplacesTo options) (file_of remaining job.plan.now old new) a (λ text. quiet_replaced options text a) due)
quiet_by remaining job old new script (Make making) a due = inr (quiet_of MakesTo (file_of remaining job.plan.now old new) a (λ text. quiet_made text a) due)
quiet_by remaining job old new script New a due = inr (quiet_begun job.request a due)
quiet_by remaining job old new script Draw a due = inr (quiet_draws (file_of remaining job.plan.now old new) script job.script a due)

pub job_quiet : {R S : Type 0} {of_plan : R → Option (List ℕ)} {of_script : S → Option (List ℕ)} {job : Job} {old new : Source R} {script_old script_new : Source S} {a : Answer}
    → AnswersJob of_plan of_script job old new script_old script_new a → job.action ≢ Search → IsQuiet a
job_quiet {of_plan = of_plan} {of_script = of_script} {job = job} {old = old} {new = new} {script_old = script_old} {script_new = script_new} {a = a} due other =
    elim (quiet_by of_plan job old new (file_of of_script (script_name job) script_old script_new) job.action a due.by_action) [
      | inl h ↦ absurd (other h.0)
      | inr quiet ↦ quiet
    ]

pub job_silent : {R S : Type 0} {of_plan : R → Option (List ℕ)} {of_script : S → Option (List ℕ)} {job : Job} {old new : Source R} {script_old script_new : Source S} {a : Answer}
    → AnswersJob of_plan of_script job old new script_old script_new a → a.status ≡ 0 → a.err ≡ []
job_silent {of_plan = of_plan} {of_script = of_script} {job = job} {old = old} {new = new} {script_old = script_old} {script_new = script_new} {a = a} due zero =
    elim (quiet_by of_plan job old new (file_of of_script (script_name job) script_old script_new) job.action a due.by_action) [
      | inl h ↦ search_silent (file_of of_plan job.plan.now old new) a h.1 zero
      | inr quiet ↦ quiet (omega arith)
    ]

-- the answer 1 of a check
pub job_no : {R S : Type 0} {of_plan : R → Option (List ℕ)} {of_script : S → Option (List ℕ)} {job : Job} {old new : Source R} {script_old script_new : Source S} {a said : Answer}
    → AnswersJob of_plan of_script job old new script_old script_new a → IsSaid a said → job.action ≡ Check → said.status ≡ 1 → HoldsFault of_plan old
job_no {of_plan = of_plan} {job = job} {old = old} {new = new} {said = said} due h is one = no_due (file_of of_plan job.plan.now old new) said (said_by due h Check is) one
