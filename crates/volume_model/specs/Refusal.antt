-- Refusals, in the order in which they are tested.
use Rattle.std.specs.Prelude.{Bool, true, false, Result, Err}
use Rattle.volume_model.specs.declared.fault.Fault.{Fault}

-- refused with this fault if the test passes
abbrev pub refuse_if : {A : Type 0} → Bool → Fault → Result A Fault → Result A Fault
refuse_if true fault rest = Err fault
refuse_if false fault rest = rest
