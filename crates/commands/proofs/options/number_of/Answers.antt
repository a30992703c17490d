use Rattle.std.proofs.Common.{ℕ, List, Result, Option, subst}
use Rattle.std.specs.Str.Parse.{ParsesUnsigned, ExplainsUnsignedError, HasUnsignedDigitsIfOk}
use Rattle.std.specs.declared.num.ParseIntError.{ParseIntError}
use Rattle.clap.specs.Words.{Text, found_of, one_text}
use Rattle.clap.proofs.WalkLemmas.{one_text-rows}
use Rattle.commands.specs.Jobs.{IsGiven, IsNoNumber}
use Rattle.commands.proofs.Numbers.{is_given, is_no_number}
use Rattle.commands.proofs.options.number_of.Goals as goal

-- how a text is read as a byte
Reads : List ℕ → Result ℕ ParseIntError → Type 0
Reads text r = ParsesUnsigned 8 10 text r × ExplainsUnsignedError 10 text r × HasUnsignedDigitsIfOk text r

pub returns-in-Ok-clause-number : goal.returns-in-Ok-clause-number
unfolding Reads
returns-in-Ok-clause-number c =
    let found = found_of c.args.matches.now in
    let read = c.in-Ok.ensures in
    subst (λ (o : Option Text). IsGiven o c.in-Ok.number) (one_text-rows found c.args.id.now)
    (is_given Reads (one_text found c.args.id.now) c.in-Ok.number (record { none = read.none; value = read.value; only = λ t x g. g.0 }))

pub returns-in-Err-clause-none : goal.returns-in-Err-clause-none
unfolding Reads
returns-in-Err-clause-none c =
    let found = found_of c.args.matches.now in
    let read = c.in-Err.ensures in
    subst (λ (o : Option Text). IsNoNumber o) (one_text-rows found c.args.id.now)
    (is_no_number Reads (one_text found c.args.id.now) c.in-Err.field-0 (record { none = read.none; value = read.value; only = λ t x g. g.0 }))
