-- Which plans have claims.
use Rattle.std.specs.Prelude.{◌≡◌, ◌≢◌, Result, Ok, Err, IsOk}
use Rattle.volume_model.specs.declared.fault.Fault.TheVariants.{NoMemory}
use Rattle.plan.specs.declared.fault.PlanFault.{PlanFault}
use Rattle.plan.specs.FaultKinds.{kind_of}

-- The definition has a value, or a fault that the result has too and that isn't NoMemory.
abbrev pub Admits : {A : Type 0} → Result (Unit {0}) PlanFault → Result A PlanFault → Type 0
Admits (Ok u) defined = IsOk defined
Admits (Err fault) defined = (defined ≡ Err fault) × (kind_of fault ≢ NoMemory)
