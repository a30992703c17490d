use Rattle.std.proofs.Common.{◌≡◌, List, Option, IfOk, map, subst, sym, true}
use Rattle.clap.specs.Words.{App, Row, Text, app_of, takes}
use Rattle.commands.specs.Jobs.{IsJob}
use Rattle.commands.proofs.Refused.{is_refused, is_right, read_by_ours}
use Rattle.commands.proofs.words.job.Goals as goal

pub returns-in-Ok-try_get_matches_from-clause-job : goal.returns-in-Ok-try_get_matches_from-clause-job
returns-in-Ok-try_get_matches_from-clause-job c =
    let words = map (λ w. w.now) c.args.words.now in
    let found = read_by_ours (app_of c.in-Ok.command) _ words c.in-Ok.ensures c.in-Ok-try_get_matches_from.ensures.matches in
    subst (λ (o : Option (Text × List Row)). IfOk c.job_of.result (IsJob o)) found c.job_of.ensures.job

pub returns-in-Ok-try_get_matches_from-clause-refused : goal.returns-in-Ok-try_get_matches_from-clause-refused
returns-in-Ok-try_get_matches_from-clause-refused c =
    let words = map (λ w. w.now) c.args.words.now in
    let found = read_by_ours (app_of c.in-Ok.command) _ words c.in-Ok.ensures c.in-Ok-try_get_matches_from.ensures.matches in
    is_right c.job_of.result _ words found c.job_of.ensures.refused

pub returns-in-Err-try_get_matches_from-clause-refused : goal.returns-in-Err-try_get_matches_from-clause-refused
returns-in-Err-try_get_matches_from-clause-refused c =
    let words = map (λ w. w.now) c.args.words.now in
    is_refused _ c.refusal.result words c.refusal.ensures
    (λ taken. c.in-Err-try_get_matches_from.ensures.passes (subst (λ (a : App). takes a words ≡ true) (sym c.in-Ok.ensures) taken))
