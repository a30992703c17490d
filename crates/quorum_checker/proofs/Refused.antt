-- What a rule answers where it is refused before its branches are checked.
use Rattle.std.proofs.Common.{◌≡◌, ◌≢◌, ℕ, ◌+◌, ◌<◌, length, arith, ap, ◌∙◌, sym, subst, Option, Some, None, Ok, Err}
use Rattle.std.specs.Result.{IsErrAnd}
use Rattle.volume_model.specs.Common.{Formula}
use Rattle.volume_model.specs.declared.fault.Fault.{Fault}
use Rattle.volume_model.specs.declared.fault.Fault.TheVariants.{NoMemory, NoSuchItem}
use Rattle.refutation.specs.declared.Side.{Side}
use Rattle.refutation.specs.declared.Refutation.{Refutation}
use Rattle.refutation.specs.declared.Refutation.TheVariants.{Dead, Clash}
use Rattle.refutation.specs.Common.{Rule, dead, clash, depth_of, rule_of}
use Rattle.refutation.proofs.Rules.{rule_of-Dead, rule_of-Clash}
use Rattle.quorum_checker.specs.declared.fault.FaultAt.{FaultAt}
use Rattle.quorum_checker.specs.Refutes.{State}
use Rattle.quorum_checker.specs.FirstFault.{here, at_item, or_else, first_fault}
use Rattle.quorum_checker.specs.Outcome.{Outcome, Answers}
use Rattle.std.proofs.lemmas.Grind.{common_steps}

at_root : (e : FaultAt) (fault : Fault) (d : ℕ) → e ≡ here fault → length e.path < 1 + d
at_root e fault d is = let none : length e.path ≡ 0 = ap (λ x. length x.path) is in omega (arith, none)

-- an item that isn't there
pub missing : (r : Outcome) (o : Option Formula) (rest : Formula → Option FaultAt) (d : ℕ) (e : FaultAt) → o ≡ None → e ≡ here NoSuchItem → IsErrAnd r (λ x. x ≡ e) → Answers r (at_item o rest) (1 + d)
missing (Ok u) o rest d e none is h = absurd h
missing (Err x) o rest d e none is h = (λ no. ap (λ q. at_item q rest) none ∙ ap Some (sym (h ∙ is)), at_root x NoSuchItem d (h ∙ is))

-- an item that fails the rule's test
pub refused : (o : Option Formula) (test : Formula → Option Fault) (rest : Formula → Option FaultAt) (f : Formula) (fault : Fault) (e : FaultAt) (d : ℕ) → o ≡ Some f → Some fault ≡ test f → e ≡ here fault
    → (e.fault ≢ NoMemory → at_item o (λ x. or_else (test x) (rest x)) ≡ Some e) × (length e.path < 1 + d)
refused o test rest f fault e d at is same = grind (arith, common_steps)

-- ---- rules without branches

pub at_dead : {B : Type 0} (r : Outcome) (rule : Refutation B) (side : Side) (item : ℕ) (st : State) → rule ≡ Dead side item → Answers r (first_fault (dead side item) st) 1 → Answers r (first_fault (rule_of rule) st) (depth_of (rule_of rule))
at_dead {B} r rule side item st is h = subst (λ (s : Rule). Answers r (first_fault s st) (depth_of s)) (sym (ap rule_of is ∙ rule_of-Dead B side item)) h

pub at_clash : {B : Type 0} (r : Outcome) (rule : Refutation B) (left right : ℕ) (st : State) → rule ≡ Clash left right → Answers r (first_fault (clash left right) st) 1 → Answers r (first_fault (rule_of rule) st) (depth_of (rule_of rule))
at_clash {B} r rule left right st is h = subst (λ (s : Rule). Answers r (first_fault s st) (depth_of s)) (sym (ap rule_of is ∙ rule_of-Clash B left right)) h
