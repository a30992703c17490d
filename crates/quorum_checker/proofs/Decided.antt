-- What the cases of members say of a claim.
use Rattle.std.proofs.Common.{◌≡◌, ℕ, zero, suc, ◌+◌, ◌-◌, ◌^◌, ◌≤◌, true, sym, ap, subst, arith, ◌&&◌, nat_le}
use Rattle.std.proofs.Math.Nat.{pow-suc}
use Rattle.std.proofs.lemmas.Bool.Decides.{nat_tests}
use Rattle.refutation.specs.Common.{Rule, depth_of, nodes_of, is_certificate}
use Rattle.quorum_checker.specs.declared.claim.Claim.{Claim}
use Rattle.quorum_checker.specs.Claim.{first_state}
use Rattle.quorum_checker.specs.Refutes.{Refutes}
use Rattle.quorum_checker.specs.Decision.{IsCertifying, IsDecision, IsKnown}
use Rattle.quorum_checker.specs.declared.deciding.Decision.{Decision}
use Rattle.quorum_checker.specs.declared.deciding.Decision.TheVariants.{Holds, Fails, Unknown}
use Rattle.quorum_checker.proofs.Complete.{IsWithin}
use Rattle.std.proofs.lemmas.Grind.{common_steps}

pub certified_refutes : {A : Type 0} (claim : Claim A) (rule : Rule) (d : Decision) → Refutes rule (first_state claim) → IsCertifying rule d → IsDecision claim d
certified_refutes claim rule (Holds certificate) h e = subst (λ r. Refutes r (first_state claim)) (sym e) h
certified_refutes claim rule (Fails witness) h e = absurd e
certified_refutes claim rule Unknown h e = tt

pub certified_known : (rule : Rule) (d : Decision) → is_certificate rule ≡ true → IsCertifying rule d → IsKnown d
certified_known rule (Holds certificate) h e = tt
certified_known rule (Fails witness) h e = absurd e
certified_known rule Unknown h e = cc

grows : (k n : ℕ) → 2 ^ n ≤ 2 ^ (n + k)
grows zero n = let same : n + 0 ≡ n = omega arith in omega (arith, ap (λ m. 2 ^ m) same)
grows (suc k) n = grind (arith, common_steps, (grows k n), (pow-suc 2 (n + k)))

few_nodes : (n size : ℕ) → n ≤ 15 → size + 1 ≤ 2 ^ (n + 1) → size ≤ 100000
few_nodes n size h i = grind (arith, common_steps, (grows (15 - n) (n + 1)))

passes : (m n : ℕ) → m ≤ n → nat_le m n ≡ true
passes m n h = grind (arith, nat_tests)

pub is_within : (n : ℕ) (rule : Rule) → n ≤ 15 → IsWithin n rule → is_certificate rule ≡ true
is_within n rule h w = grind (arith, common_steps, (passes (depth_of rule) 40 (omega (arith, w.levels))), (passes (nodes_of rule) 100000 (few_nodes n (nodes_of rule) h w.size)), (few_nodes n (nodes_of rule) h w.size))
