-- The completion of orders, and the counts of those made and refused.
use Rattle.std.specs.Prelude.{◌+◌, Bool, true, false, Result, Ok, Err}
use Rattle.volume_model.specs.declared.fault.Fault.{Fault}
use Rattle.volume_model.specs.declared.fault.Fault.TheVariants.{NoMemory}
use Rattle.drivers.specs.declared.completion_table.RunCounts.{RunCounts}
use Rattle.drivers.specs.declared.completion.Completion.{Completion}
use Rattle.drivers.specs.declared.completion.Completion.TheVariants.{Made, Refused, OutOfMemory}

-- the order was made
abbrev pub is_made : Completion → Bool
is_made (Made first count) = true
is_made Refused = false
is_made OutOfMemory = false

-- the order was refused, and memory didn't run out
abbrev pub is_refused : Completion → Bool
is_refused (Made first count) = false
is_refused Refused = true
is_refused OutOfMemory = false

-- the call was refused, and memory didn't run out
abbrev pub is_refusal : {T : Type 0} → Result T Fault → Bool
is_refusal (Ok made) = false
is_refusal (Err NoMemory) = false
is_refusal (Err fault) = true

-- the order ran out of memory
abbrev pub IsOutOfMemory : Completion → Type 0
IsOutOfMemory (Made first count) = ⊥
IsOutOfMemory Refused = ⊥
IsOutOfMemory OutOfMemory = Unit {0}

-- the counts with one more order; one that ran out of memory doesn't count
abbrev pub counts_with : Completion → RunCounts → RunCounts
counts_with (Made first count) counts = record counts { made = counts.made + 1 }
counts_with Refused counts = record counts { refused = counts.refused + 1 }
counts_with OutOfMemory counts = counts
