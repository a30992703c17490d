-- Why a job is refused, from what clap found to the words.
use Rattle.std.proofs.Common.{◌≡◌, ◌∙◌, ap, List, Option, Result, Ok, Err, IfErr, subst, sym, true}
use Rattle.clap.specs.Words.{App, Row, Text, is_simple, kind_of, subcommand_of, takes}
use Rattle.clap.specs.declared.error.Error.{Error}
use Rattle.clap.specs.declared.error.kind.ErrorKind.TheVariants.{OutOfMemory}
use Rattle.commands.specs.CommandLine.{tool}
use Rattle.commands.specs.Jobs.{IsJob}
use Rattle.commands.specs.Usage.{IsMissing, IsRefusal, IsRightFor}
use Rattle.commands.specs.declared.usage.Usage.{Usage}
use Rattle.commands.specs.declared.usage.Usage.TheVariants.{Words, Missing, Memory}

-- what is missing of what clap found is missing of its reading of the words
pub is_right : {A : Type 0} (r : Result A Usage) (found : Option (Text × List Row)) (words : List Text)
    → found ≡ subcommand_of tool words → IfErr r (IsMissing found) → IfErr r (IsRightFor words)
is_right (Ok x) found words e h = tt
is_right (Err (Words error)) found words e h = absurd h
is_right (Err (Missing what)) found words e h = λ j named. h j (subst (λ (o : Option (Text × List Row)). IsJob o j) (sym e) named)
is_right (Err (Memory error)) found words e h = absurd h

-- a refusal of clap's that isn't running out of memory is of words that it doesn't take
pub is_refused : (error : Error) (said : Usage) (words : List Text) → IsRefusal error said → (takes tool words ≡ true → kind_of error ≡ OutOfMemory) → IsRightFor words said
is_refused error (Words e) words h k = λ taken. h.1 (k taken)
is_refused error (Missing what) words h k = absurd h
is_refused error (Memory refused) words h k = tt

-- what clap found by a command line that is ours is what it reads by ours
pub read_by_ours : {P : Type 0} (a : App) (found : Option (Text × List Row)) (words : List Text)
    → a ≡ tool → (is_simple a ≡ true → P × (found ≡ subcommand_of a words)) → found ≡ subcommand_of tool words
read_by_ours a found words e h = (h (ap is_simple e)).1 ∙ ap (λ b. subcommand_of b words) e
