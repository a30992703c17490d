-- What a check's outcome means.
use Rattle.std.proofs.Common.{◌≡◌, ◌≢◌, ℕ, Ok, Err, Some, OnOk, IfErr}
use Rattle.std.specs.Ordering.{nat_cmp}
use Rattle.std.specs.FinSet.{FinSet}
use Rattle.volume_model.specs.Common.{Formula, Meets}
use Rattle.refutation.specs.Common.{Rule, depth_of}
use Rattle.volume_model.specs.declared.fault.Fault.TheVariants.{NoMemory}
use Rattle.quorum_checker.specs.Refutes.{State, Refutes, claim_state}
use Rattle.quorum_checker.specs.FirstFault.{first_fault}
use Rattle.quorum_checker.specs.Outcome.{Outcome, Answers}
use Rattle.quorum_checker.proofs.Exact.{refutes, accepted}
use Rattle.quorum_checker.proofs.Sound.{meets}
use Rattle.std.proofs.lemmas.Grind.{common_steps}
use Rattle.std.proofs.Common.{arith}

-- a check starts with the state of its claim
pub started : (r : Outcome) (tree rule : Rule) (st first : State) → tree ≡ rule → st ≡ first → Answers r (first_fault tree st) (depth_of tree) → Answers r (first_fault rule first) (depth_of rule)
started r tree rule st first is same h = grind (arith, common_steps)

pub ok_refutes : (r : Outcome) (rule : Rule) (st : State) (d : ℕ) → Answers r (first_fault rule st) d → OnOk r (Refutes rule st)
ok_refutes (Ok u) rule st d h = refutes rule st h
ok_refutes (Err e) rule st d h = tt

pub err_refutes_not : (r : Outcome) (rule : Rule) (st : State) (d : ℕ) → Answers r (first_fault rule st) d → IfErr r (λ e. e.fault ≢ NoMemory → ¬ (Refutes rule st))
err_refutes_not (Ok u) rule st d h = tt
err_refutes_not (Err e) rule st d h = λ memory yes. let none = accepted rule st yes in let some = h.0 memory in cc

pub err_faults : (r : Outcome) (rule : Rule) (st : State) (d : ℕ) → Answers r (first_fault rule st) d → IfErr r (λ e. e.fault ≢ NoMemory → first_fault rule st ≡ Some e)
err_faults (Ok u) rule st d h = tt
err_faults (Err e) rule st d h = h.0

pub ok_meets : (r : Outcome) (rule : Rule) (left right : Formula) (clear : FinSet nat_cmp) (d : ℕ) → Answers r (first_fault rule (claim_state left right clear)) d → OnOk r (Meets left right clear)
ok_meets (Ok u) rule left right clear d h = meets rule left right clear (refutes rule (claim_state left right clear) h)
ok_meets (Err e) rule left right clear d h = tt
