use Rattle.std.proofs.Common.{Option, ℕ, subst}
use Rattle.clap.specs.Words.{found_of, one_of, rows_of}
use Rattle.commands.specs.Jobs.{IsGiven}
use Rattle.commands.proofs.Numbers.{no_number_or, number_given, other_given}
use Rattle.commands.proofs.options.number_or.Goals as goal

pub returns-in-Ok-Some-clause-number : goal.returns-in-Ok-Some-clause-number
returns-in-Ok-Some-clause-number c =
    let o = one_of c.args.id.now (rows_of (found_of c.args.matches.now)) in
    number_given c.args.other c.in-Ok-Some.number o (subst (λ (x : Option ℕ). IsGiven o x) c.in-Ok-Some.field-0-is c.in-Ok-Some.ensures.number)

pub returns-in-Ok-None-clause-number : goal.returns-in-Ok-None-clause-number
returns-in-Ok-None-clause-number c =
    let o = one_of c.args.id.now (rows_of (found_of c.args.matches.now)) in
    other_given c.args.other o (subst (λ (x : Option ℕ). IsGiven o x) c.in-Ok-None.field-0-is c.in-Ok-None.ensures.number)

pub returns-in-Err-clause-none : goal.returns-in-Err-clause-none
returns-in-Err-clause-none c = no_number_or c.args.other (one_of c.args.id.now (rows_of (found_of c.args.matches.now))) c.in-Err.ensures.none
