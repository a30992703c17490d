-- Reading the values of a list one after the other, as a loop does.
use Rattle.std.proofs.Common.{List, ◌++◌, Result, Ok}
use Rattle.plan.specs.declared.fault.PlanFault.{PlanFault}
use Rattle.volume_model.specs.declared.fault.Fault.{Fault}
use Rattle.volume_model.specs.Common.{◌>>=◌}
use Rattle.plan.specs.PlanText.{◌>=>◌}

-- what was read before, and what is still read
abbrev pub with_front : {A : Type 0} → List A → Result (List A) PlanFault → Result (List A) PlanFault
with_front front read = read >=> λ xs. Ok (front ++ xs)

-- what was written before, and what is still written
abbrev pub after_front : {A : Type 0} → List A → Result (List A) Fault → Result (List A) Fault
after_front front written = written >>= λ xs. Ok (front ++ xs)
