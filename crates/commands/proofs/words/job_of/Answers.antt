use Rattle.clap.specs.Words.{found_of, rows_of, Row, Text, subcommand_rows_of}
use Rattle.clap.specs.declared.parser.matches.ArgMatches.TheViews.{out-ArgMatches}
use Rattle.std.proofs.Common.{◌≡◌, ◌∙◌, List, Some, subst, sym}
use Rattle.commands.specs.Jobs.{NamesPlan, name_of}
use Rattle.commands.proofs.Entered.{is_entered, same_entered}
use Rattle.commands.proofs.words.job_of.Goals as goal

pub returns-clause-job : goal.returns-clause-job
returns-clause-job c =
    let rows = rows_of (found_of c.in-Some.inner.now) in
    record {
      rows = rows;
      entered = rw (← c.in-Some-action_of.ensures.named) (is_entered (out-ArgMatches c.args.matches.now).subcommand c.in-Some.name.now rows c.in-Some.ensures.name c.in-Some.ensures.rows);
      plan = rw (← c.in-Some-action_of.ensures.named) c.in-Some-plan_of.ensures.named;
      script = c.text_of-script.ensures;
      workers = c.in-Some-workers_of.ensures.number;
      apart = c.are_apart.ensures.0 c.if-not-are_apart.false;
      json = c.is_given.ensures;
      output = c.text_of.ensures;
      pretty = c.is_given-2.ensures;
      options = c.in-Some-action_of.ensures.options;
      request = c.request_of.ensures;
    }

pub returns-in_default-plan_of-clause-refused : goal.returns-in_default-plan_of-clause-refused
returns-in_default-plan_of-clause-refused c = λ j is.
    let rows = rows_of (found_of c.in-Some.inner.now) in
    let here : subcommand_rows_of c.args.matches.now ≡ Some (c.in-Some.name.now, rows) =
    is_entered (out-ArgMatches c.args.matches.now).subcommand c.in-Some.name.now rows c.in-Some.ensures.name c.in-Some.ensures.rows in
    let same : (c.in-Some.name.now, rows) ≡ (name_of j.action, is.rows) = same_entered (c.in-Some.name.now, rows) (name_of j.action, is.rows) (sym here ∙ is.entered) in
    c.in_default-plan_of.ensures.none j.plan.now (subst (λ (p : Text × List Row). NamesPlan p.0 p.1 j.plan.now) (sym same) is.plan)
