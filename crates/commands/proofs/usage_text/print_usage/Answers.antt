use Rattle.std.proofs.Common.{[], refl, true}
use Rattle.std.proofs.lemmas.Bool.{both_ways}
use Rattle.commands.specs.Answer.{line_answer, no_memory, printed}
use Rattle.commands.proofs.Given.{ends_as}
use Rattle.commands.specs.UsageText.{AnswersUsage}
use Rattle.commands.specs.UsageText.AnswersUsage.{asked_for, mistaken, wanting}
use Rattle.commands.proofs.usage_text.print_usage.Goals as goal

pub returns-in-Ok-clause-given : goal.returns-in-Ok-clause-given
returns-in-Ok-clause-given g c = record {
  answer = printed 0 c.as_bytes.result.now;
  due = asked_for _ (c.is_asked_for.ensures.0 c.if-is_asked_for.true);
  given = c.deliver.ensures.delivers;
}

pub returns-in-Ok-2-clause-given : goal.returns-in-Ok-2-clause-given
returns-in-Ok-2-clause-given g c = record {
  answer = line_answer true c.as_bytes-in-Ok-2.result.now;
  due = mistaken _ (λ asked. both_ways c.is_asked_for.result c.if-is_asked_for.false (c.is_asked_for.ensures.1 asked));
  given = c.deliver-in-Ok-2.ensures.delivers;
}

pub returns-in-Err-clause-given : goal.returns-in-Err-clause-given
returns-in-Err-clause-given g c =
    ends_as g.O.Write.contents g.E.Write.contents (AnswersUsage c.args.usage.now) c.deliver-in-Err.result c.args.out.now c.deliver-in-Err.new.out c.args.err.now c.deliver-in-Err.new.err
    2 [] [] no_memory.err c.as_bytes-in-Err.result.now refl c.as_bytes-in-Err.ensures.value wanting c.deliver-in-Err.ensures.delivers
