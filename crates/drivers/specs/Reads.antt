-- The result of reading a text.
use Rattle.std.specs.Prelude.{◌≡◌, Option, Some, None, Result, Ok, Err}
use Rattle.volume_model.specs.declared.fault.Fault.{Fault}
use Rattle.volume_model.specs.declared.fault.Fault.TheVariants.{Malformed, NoMemory}

-- What is read, seen by view, is what the text has; it is refused as malformed if the text has nothing. If memory ran
-- out this says nothing.
abbrev pub ReadsBy : {A B : Type 0} → (A → B) → Option B → Result A Fault → Type 0
ReadsBy view there (Ok x) = there ≡ Some (view x)
ReadsBy view there (Err NoMemory) = Unit {0}
ReadsBy view there (Err Malformed) = there ≡ None
ReadsBy view there (Err fault) = ⊥

-- the same for a reader that allocates nothing
abbrev pub Reads : {A : Type 0} → Option A → Result A Fault → Type 0
Reads there (Ok x) = there ≡ Some x
Reads there (Err Malformed) = there ≡ None
Reads there (Err fault) = ⊥
