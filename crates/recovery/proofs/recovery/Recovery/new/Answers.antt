use Rattle.std.proofs.Common.{◌≡◌, List, map, true, Err, sym, ap, subst, ◌∙◌}
use Rattle.std.specs.Arc.{arc_value}
use Rattle.volume_model.specs.Common.{never_after_growth, refusal_of, Plan, ClientAnswer, newly_at, are_places}
use Rattle.volume_model.specs.declared.fault.Fault.{Fault}
use Rattle.plan.specs.declared.checked.CheckedPlan.{CheckedPlan}
use Rattle.plan.specs.Common.{checked_model}
use Rattle.wire.specs.declared.label.Place.{Place}
use Rattle.wire.specs.declared.message.Message.{Message}
use Rattle.wire.specs.Common.{place_of, message_of, messages_of}
use Rattle.writer_core.specs.Groups.{groups_in}
use Rattle.writer_core.proofs.Answering.{judged, refused}
use Rattle.recovery.specs.Recoveries.{begun, birth_of}
use Rattle.recovery.proofs.Views.{birth-is, found-older}
use Rattle.recovery.proofs.recovery.Recovery.new.Goals as goal

pub invariant_of-recovery-clause-older : goal.invariant_of-recovery-clause-older
invariant_of-recovery-clause-older c = found-older c.in-Ok.view.now.volume (map place_of c.as_slice.result.now) (groups_in c.in_ok-group_states.group_states) c.in_ok-group_states.ensures.groups

pub returns-in-Err-clause-birth : goal.returns-in-Err-clause-birth
returns-in-Err-clause-birth c =
    let defined : ClientAnswer = birth_of (checked_model (arc_value c.args.plan)) (message_of c.args.message.now) in
    let fault : Fault = c.in-Err.fault in
    let refusal : Err fault ≡ refusal_of defined = c.in-Err.ensures.refusal ∙ ap (λ (p : CheckedPlan). refusal_of (birth_of (checked_model p) (message_of c.args.message.now))) c.deref.ensures in
    refused never_after_growth (λ made u. begun made) fault defined tt c.in-Err.ensures.own (judged fault defined refusal)

pub returns-clause-birth : goal.returns-clause-birth
returns-clause-birth c =
    let plan : Plan = checked_model (arc_value c.args.plan) in
    let view = c.in-Ok.view.now in
    let places = map place_of view.places.value.items in
    let groups = groups_in c.in_ok-group_states.group_states in
    let made = messages_of c.in_ok-messages.messages.items in
    let good : are_places plan places ≡ true = ap (λ (p : CheckedPlan). are_places (checked_model p) places) (sym c.deref.ensures) ∙ c.in-Ok.ensures.places in
    let found : groups ≡ map newly_at places = subst (λ (xs : List Place). groups ≡ map newly_at (map place_of xs)) (c.as_slice.ensures.value ∙ ap (λ v. v.items) c.deref-2.ensures) c.in_ok-group_states.ensures.groups in
    ap (λ (m : Message). birth_of plan (message_of m)) c.in-Ok.ensures.view
    ∙ birth-is plan view.volume places groups made good found c.in_ok-messages.ensures
