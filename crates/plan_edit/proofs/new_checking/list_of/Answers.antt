use Rattle.std.proofs.Common.{◌≡◌, ◌∙◌, ◌++◌, ◌∷◌, [], ap, sym, arith}
use Rattle.std.specs.FinSet as set
use Rattle.volume_model.specs.Common.{each_below}
use Rattle.quorum_expr.proofs.MemberLists.{one_more, no_more}
use Rattle.plan_edit.proofs.new_checking.list_of.Goals as goal
use Rattle.plan_edit.proofs.new_checking.list_of.Goals.{then-contains+in_ok-push, else-contains}

pub returns : goal.returns
returns c =
    let all : c.loop-member.member ≡ 64 = omega (arith, c.loop-member.auto.member-end) in
    c.loop-member.invariant ∙ ap (λ n. each_below n (set.contains c.args.members) (λ x. x)) all

pub loop-member-preserved : goal.loop-member-preserved
loop-member-preserved c = elim c.if-contains.branch [
  | then-contains+in_ok-push w ↦ rw w.list-is (w.in_ok-push.ensures.items ∙ ap (λ xs. xs ++ c.loop-member.member ∷ []) c.loop-member.invariant ∙ sym (one_more c.loop-member.member _ (λ x. x) (sym w.if-contains.ensures.is_in)))
  | else-contains w ↦ rw w.list-is (c.loop-member.invariant ∙ sym (no_more c.loop-member.member _ (λ x. x) (sym w.if-contains.ensures.is_in)))
]
