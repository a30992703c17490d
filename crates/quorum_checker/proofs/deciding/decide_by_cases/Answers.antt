use Rattle.std.proofs.Common.{◌≡◌}
use Rattle.std.specs.FinSet.{empty}
use Rattle.volume_model.specs.Common.{listed}
use Rattle.quorum_expr.specs.Common.{formula_of}
use Rattle.refutation.specs.Common.{rule_of}
use Rattle.quorum_checker.specs.Cases.{cases, refuted, apart}
use Rattle.quorum_checker.specs.Decision.{common}
use Rattle.quorum_checker.proofs.Complete.{refutes, within, leaves}
use Rattle.quorum_checker.proofs.Apart.{listed_small, apart_of}
use Rattle.quorum_checker.proofs.Decided.{certified_refutes, certified_known, is_within}
use Rattle.quorum_checker.proofs.deciding.decide_by_cases.Goals as goal
use Rattle.std.proofs.lemmas.Grind.{common_steps}
use Rattle.std.proofs.Common.{arith}
use Rattle.std.proofs.Common.{rules}

pub split-requires : goal.split-requires
split-requires g c = grind (arith, common_steps, c.as_slice.ensures.value, c.in_ok-members.ensures.listed, c.common_members.ensures, listed_small)

pub returns-in-Refuted-clause-decision : goal.returns-in-Refuted-clause-decision
returns-in-Refuted-clause-decision g c = search (rules, c.as_slice.ensures.value, c.in_ok-members.ensures.listed, c.common_members.ensures, c.in-Refuted.is, c.in_ok-tree.ensures.cases, c.empty.ensures, c.certified.ensures, certified_refutes, refutes)

pub returns-in-Refuted-clause-known : goal.returns-in-Refuted-clause-known
returns-in-Refuted-clause-known g c = λ few.
    let f = formula_of c.args.claim.now.left in
    let h = formula_of c.args.claim.now.right in
    let found : cases (listed (common c.args.claim.now)) f h c.args.claim.now.clear empty ≡ refuted (rule_of c.in-Refuted.tree) = grind (arith, common_steps) in
    search (rules, c.certified.ensures, certified_known, is_within, within, listed_small)

pub returns-clause-known : goal.returns-clause-known
returns-clause-known g c = λ few.
    let f = formula_of c.args.claim.now.left in
    let h = formula_of c.args.claim.now.right in
    let p = c.in-Apart.absent_left in
    let q = c.in-Apart.absent_right in
    let found : cases (listed (common c.args.claim.now)) f h c.args.claim.now.clear empty ≡ apart p q = grind (arith, common_steps) in
    c.apart.ensures.known (apart_of c.args.claim.now p q (leaves (listed (common c.args.claim.now)) f h c.args.claim.now.clear empty p q found))
