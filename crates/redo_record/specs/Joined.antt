-- Concatenation of lists.
use Rattle.std.specs.Prelude.{List}
use Rattle.std.specs.List.{flat_map}
use Rattle.volume_model.specs.Common.{Redo}

-- the records of all runs, in order
abbrev pub joined : List (List Redo) → List Redo
joined runs = flat_map (λ run. run) runs
