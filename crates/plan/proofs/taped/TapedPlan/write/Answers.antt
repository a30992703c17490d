use Rattle.std.proofs.Common.{◌∙◌, length, sym, subst}
use Rattle.quorum_expr.specs.Common.{data_of}
use Rattle.plan.specs.Kept.{KeepsValues}
use Rattle.plan.specs.Written.{rewritten}
use Rattle.plan.specs.Taped.{HasClaims, Spells}
use Rattle.plan.specs.PutPlans.{rules_in}
use Rattle.plan.proofs.TapeTexts.{is-written}
use Rattle.plan.proofs.taped.TapedPlan.write.Goals as goal

pub returns-in-Some-clause-written : goal.returns-in-Some-clause-written
returns-in-Some-clause-written c =
    let text = c.self.inside.text.now in
    let of = c.self.invariant in
    let cs = c.args.certificates.now in
    let has = subst (λ t. HasClaims t (length cs)) (sym c.self.view_is) c.requires in
    let all = is-written text (data_of c.readable_root-root.result) cs (length cs) c.new-writer.result c.put_plan.new.writer c.into_inner.result.items of.within of.utf8 (c.readable_root-root.ensures text of.is of.json) has c.room_for.ensures
    c.new-writer.ensures.tokens (c.new-writer.ensures.before ∙ c.in_ok-with_capacity.ensures.items) c.in-Some.ensures c.into_inner.ensures.items c.into_inner.ensures.reads_back c.into_inner.ensures.utf8 in
    subst (λ t. Spells (rewritten t (rules_in cs)) c.into_inner.result.items) c.self.view_is all.written

pub returns-in-Some-clause-compact : goal.returns-in-Some-clause-compact
returns-in-Some-clause-compact c =
    let text = c.self.inside.text.now in
    let of = c.self.invariant in
    let cs = c.args.certificates.now in
    let has = subst (λ t. HasClaims t (length cs)) (sym c.self.view_is) c.requires in
    let all = is-written text (data_of c.readable_root-root.result) cs (length cs) c.new-writer.result c.put_plan.new.writer c.into_inner.result.items of.within of.utf8 (c.readable_root-root.ensures text of.is of.json) has c.room_for.ensures
    c.new-writer.ensures.tokens (c.new-writer.ensures.before ∙ c.in_ok-with_capacity.ensures.items) c.in-Some.ensures c.into_inner.ensures.items c.into_inner.ensures.reads_back c.into_inner.ensures.utf8 in
    all.compact

pub returns-in-Some-clause-kept : goal.returns-in-Some-clause-kept
returns-in-Some-clause-kept c =
    let text = c.self.inside.text.now in
    let of = c.self.invariant in
    let cs = c.args.certificates.now in
    let has = subst (λ t. HasClaims t (length cs)) (sym c.self.view_is) c.requires in
    let all = is-written text (data_of c.readable_root-root.result) cs (length cs) c.new-writer.result c.put_plan.new.writer c.into_inner.result.items of.within of.utf8 (c.readable_root-root.ensures text of.is of.json) has c.room_for.ensures
    c.new-writer.ensures.tokens (c.new-writer.ensures.before ∙ c.in_ok-with_capacity.ensures.items) c.in-Some.ensures c.into_inner.ensures.items c.into_inner.ensures.reads_back c.into_inner.ensures.utf8 in
    subst (λ t. KeepsValues t c.into_inner.result.items) c.self.view_is all.kept
