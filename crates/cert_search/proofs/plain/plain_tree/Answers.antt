use Rattle.std.proofs.Common.{◌≡◌, ap, ◌∙◌, sym}
use Rattle.refutation.specs.Common.{rules_of, is_certificate, branches_of, pair_up}
use Rattle.cert_search.specs.Plain.{clashes}
use Rattle.cert_search.proofs.Pairs.{within}
use Rattle.cert_search.proofs.plain.plain_tree.Goals as goal

pub equal_pairs-requires : goal.equal_pairs-requires
equal_pairs-requires g c = (c.children.ensures.few c.requires.left, c.children-2.ensures.few c.requires.right)

pub returns-clause-within : goal.returns-clause-within
returns-clause-within g c =
    let same : clashes c.as_slice.result.now ≡ rules_of c.in_ok-then.then.items = cc (c.in_ok-then.ensures) in
    let pairs = c.as_slice.ensures.value in
    let spelt = c.only_match.ensures ∙ ap (λ rs. pair_up 0 0 c.in_ok-pairs.pairs.items (branches_of rs)) (sym same ∙ ap clashes pairs) in
    ap is_certificate spelt ∙ within c.in_ok-pairs.pairs.items c.in_ok-pairs.ensures.few
