-- The text that is printed in place of a job.
use Rattle.std.specs.Prelude.{◌≡◌, ◌≢◌, true, List, Option}
use Rattle.clap.specs.Words.{Row, Text, kind_of, subcommand_of, takes}
use Rattle.clap.specs.declared.error.kind.ErrorKind.TheVariants.{DisplayHelp, DisplayVersion, OutOfMemory}
use Rattle.clap.specs.declared.error.Error.{Error}
use Rattle.commands.specs.CommandLine.{tool}
use Rattle.commands.specs.Jobs.{IsJob}
use Rattle.commands.specs.declared.action.Job.{Job}
use Rattle.commands.specs.declared.usage.Usage.{Usage}
use Rattle.commands.specs.declared.usage.Usage.TheVariants.{Words, Missing, Memory}

-- The words ask for it: it is the help or the version.
abbrev pub IsAskedFor : Usage → Type 0
IsAskedFor (Words error) = (kind_of error ≢ DisplayHelp) × (kind_of error ≢ DisplayVersion) → ⊥
IsAskedFor (Missing what) = ⊥
IsAskedFor (Memory error) = ⊥

-- the text if clap refuses the words with this error
abbrev pub IsRefusal : Error → Usage → Type 0
IsRefusal error (Words said) = (said ≡ error) × (kind_of error ≢ OutOfMemory)
IsRefusal error (Missing what) = ⊥
IsRefusal error (Memory refused) = kind_of error ≡ OutOfMemory

-- a subcommand or a file is missing, or standard input is to be read twice: what clap found names no job
abbrev pub IsMissing : Option (Text × List Row) → Usage → Type 0
IsMissing found (Words error) = ⊥
IsMissing found (Missing what) = (j : Job) → IsJob found j → ⊥
IsMissing found (Memory error) = ⊥

-- The text has its reason: clap's refusal only if clap doesn't take the words, a missing subcommand or file only if
-- clap's reading of the words names no job.
abbrev pub IsRightFor : List Text → Usage → Type 0
IsRightFor words (Words error) = takes tool words ≢ true
IsRightFor words (Missing what) = IsMissing (subcommand_of tool words) (Missing what)
IsRightFor words (Memory error) = Unit {0}
