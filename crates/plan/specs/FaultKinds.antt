-- The kinds of a plan's faults.
use Rattle.std.specs.Prelude.{Bool, true, false}
use Rattle.volume_model.specs.declared.fault.Fault.{Fault}
use Rattle.volume_model.specs.declared.fault.Fault.TheVariants.{NoMemory, Malformed}
use Rattle.volume_model.specs.declared.fault.Fault.TheVariants as faults
use Rattle.plan.specs.declared.fault.PlanFault.{PlanFault}
use Rattle.plan.specs.declared.fault.PlanFault.TheVariants.{Text, Expression, BadParent, MemberReused, NoCertificate, Certificate}

-- the text isn't a plan's at all, or memory ran out
abbrev pub is_input_fault : Fault → Bool
is_input_fault NoMemory = true
is_input_fault Malformed = true
is_input_fault fault = false

abbrev pub is_input : PlanFault → Bool
is_input (Text fault) = is_input_fault fault
is_input (Expression fault g c quorum) = false
is_input (BadParent g c) = false
is_input (MemberReused g c x) = false
is_input (NoCertificate g c step) = false
is_input (Certificate g c step at) = false

-- the fault without its place
abbrev pub kind_of : PlanFault → Fault
kind_of (Text fault) = fault
kind_of (Expression fault g c quorum) = fault
kind_of (BadParent g c) = faults.BadParent
kind_of (MemberReused g c x) = faults.MemberReused
kind_of (NoCertificate g c step) = faults.NoCertificate
kind_of (Certificate g c step at) = faults.Certificate
