-- How a plan's fault is printed.
use Rattle.std.specs.Prelude.{ℕ, List, ◌++◌, codes}
use Rattle.std.specs.Fmt.{decimal}
use Rattle.volume_model.specs.Common.{fault_text, number_of}
use Rattle.volume_model.specs.declared.fault.Fault.TheVariants as faults
use Rattle.quorum_checker.specs.FaultText.{fault_at_text}
use Rattle.plan.specs.declared.fault.PlanFault.{PlanFault}
use Rattle.plan.specs.declared.fault.PlanFault.TheVariants.{Text, Expression, BadParent, MemberReused, NoCertificate, Certificate}
use Rattle.plan.specs.FaultKinds.{is_input_fault}
use Rattle.plan.specs.FaultText.{quorum_text, claim_text, verdict_text, place_text}

-- The line of a fault: its number and name, and its place.
abbrev pub plan_fault_text : PlanFault → List ℕ
plan_fault_text (Text fault) = verdict_text (is_input_fault fault) ++ codes ": " ++ fault_text fault
plan_fault_text (Expression fault g c quorum) = codes "no: " ++ fault_text fault ++ codes " " ++ place_text g c
    ++ codes " " ++ quorum_text quorum
plan_fault_text (BadParent g c) = codes "no: " ++ fault_text faults.BadParent ++ codes " " ++ place_text g c
plan_fault_text (MemberReused g c member) = codes "no: " ++ fault_text faults.MemberReused ++ codes " " ++ place_text g
    c ++ codes " member " ++ decimal member
plan_fault_text (NoCertificate g c step) = codes "no: " ++ fault_text faults.NoCertificate ++ codes " " ++ place_text g
    c ++ codes " " ++ claim_text step
plan_fault_text (Certificate g c step at) = codes "no: " ++ (decimal (number_of faults.Certificate)
    ++ (codes " " ++ (place_text g c ++ (codes " " ++ (claim_text step ++ (codes ": " ++ fault_at_text at))))))
