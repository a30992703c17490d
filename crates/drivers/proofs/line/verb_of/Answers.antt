use Rattle.std.proofs.Common.{refl}
use Rattle.drivers.specs.Grammar.{name_of}
use Rattle.drivers.specs.declared.line.Verb.TheVariants as verb
use Rattle.drivers.proofs.Parsing.{other_word}
use Rattle.drivers.proofs.line.verb_of.Goals as goal

pub returns-in_default : goal.returns-in_default
returns-in_default c =
    let d = c.in_default in
    let w = c.args.word.now in
    rw (
      other_word (name_of verb.Assign) w d.not-assign,
      other_word (name_of verb.Advance) w d.not-advance,
      other_word (name_of verb.Refresh) w d.not-refresh,
      other_word (name_of verb.Grow) w d.not-grow,
      other_word (name_of verb.Issue) w d.not-issue,
      other_word (name_of verb.Take) w d.not-take,
      other_word (name_of verb.Cut) w d.not-cut,
      other_word (name_of verb.Open) w d.not-open,
      other_word (name_of verb.Resend) w d.not-resend,
      other_word (name_of verb.Read) w d.not-read,
      other_word (name_of verb.Deliver) w d.not-deliver,
      other_word (name_of verb.Hydrate) w d.not-hydrate,
      other_word (name_of verb.Restart) w d.not-restart,
      other_word (name_of verb.Offer) w d.not-offer,
      other_word (name_of verb.Wait) w d.not-wait,
    ) refl
