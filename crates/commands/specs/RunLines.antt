-- Lines that are appended to the text of a run.
use Rattle.std.specs.Prelude.{◌≡◌, ℕ, List, ◌++◌, Option}
use Rattle.commands.specs.RunText.{AreLinesOf, IsLineOf, EventResult, line_results}
use Rattle.drivers.specs.declared.reading.Step.{Step}

-- a line was added
abbrev pub AppendsLine : ℕ → Option EventResult → List ℕ → List ℕ → Type 0
AppendsLine line reported old new = (added : List ℕ) × IsLineOf line reported added × (new ≡ old ++ added)

-- a line for each step was added
abbrev pub AppendsLines : List Step → List EventResult → List ℕ → List ℕ → Type 0
AppendsLines steps results old new = (added : List ℕ) × AreLinesOf (line_results steps results) added
    × (new ≡ old ++ added)
