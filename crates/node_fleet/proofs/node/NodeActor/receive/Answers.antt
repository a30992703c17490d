use Rattle.std.proofs.Common.{List, length, Err, sym, ap, ◌∙◌, subst}
use Rattle.volume_model.specs.declared.fault.Fault.TheVariants.{NoActor}
use Rattle.volume_model.specs.Common.{world_at, Exact, numbered, World, Deliver}
use Rattle.volume_model.specs.Journal.{Entry}
use Rattle.wire.specs.Common.{listed, messages_of}
use Rattle.segment_core.specs.Prepared.{step_of}
use Rattle.segment_core.specs.Segment.{node_of}
use Rattle.journal.specs.Entries.{entries_of}
use Rattle.journal.specs.Passes.{journal_of, message_ref_message, message_ref_number, marked, seen_at}
use Rattle.journal.specs.Tokens.{shown}
use Rattle.node_fleet.specs.declared.halt.Halt.{Halt}
use Rattle.node_fleet.specs.RecordsAttempt.{IsExact}
use Rattle.node_fleet.proofs.NodeSteps.{answers, becomes, not_joined, same_of, there_joined, unjoined_delivery}
use Rattle.node_fleet.proofs.node.NodeActor.receive.Goals as goal

pub refused-requires-clause-exact : goal.refused-requires-clause-exact
refused-requires-clause-exact g c =
    let node = c.args.self.now in
    let now = world_at g.L.Site.plan (journal_of c.reserve_step.new.log) in
    unjoined_delivery g.L.Site.plan now node.group node.member c.number.result (not_joined now node.group c.from.result c.joined.result c.joined.ensures c.from.ensures c.if-from-joined.true)

pub returns-then-from-joined-clause-exact : goal.returns-then-from-joined-clause-exact
returns-then-from-joined-clause-exact g c =
    let plan = g.L.Site.plan in
    let slots = g.L.Site.slots in
    let cells = length g.L.Site.cells in
    let node = c.args.self.now in
    let number = message_ref_number c.args.message_ref.now in
    let es = journal_of c.reserve_step.new.log in
    let now = world_at plan es in
    let here : Exact plan slots cells es (Deliver node.group node.member c.number.result) NoActor = unjoined_delivery plan now node.group node.member c.number.result (not_joined now node.group c.from.result c.joined.result c.joined.ensures c.from.ensures c.if-from-joined.true) in
    let named : Exact plan slots cells es (Deliver node.group node.member number) NoActor = subst (λ n. Exact plan slots cells es (Deliver node.group node.member n) NoActor) (c.number.ensures ∙ c.has.ensures.message_ref.0) here in
    subst (λ (h : Halt). IsExact plan slots cells (journal_of c.args.log.now) (Deliver node.group node.member number) (Err h)) (sym c.refused.ensures.halt)
    (subst (λ (es : List Entry). Exact plan slots cells es (Deliver node.group node.member number) NoActor) ((c.reserve_step.ensures.log ∙ ap (λ ts. entries_of (shown ts.items)) c.catch_up.ensures.log.0) ∙ c.has.ensures.log) named)

pub enter-requires-clause-goes : goal.enter-requires-clause-goes
enter-requires-clause-goes g c =
    let plan = g.L.Site.plan in
    let node = c.args.self.now in
    let message_ref = c.args.message_ref.now in
    answers plan g.L.Site.slots 0 (journal_of c.reserve_step.new.log) (world_at plan (seen_at node.cursor)) (marked node.cursor) node.group node.member (node_of node.segment) node.who node.named node.state c.in_ok-reserve_step.ensures.agree (there_joined (world_at plan (journal_of c.reserve_step.new.log)) node.group c.from.result c.joined.result c.joined.ensures c.from.ensures c.if-from-joined.false)
    (message_ref_number message_ref) c.number.result (message_ref_message message_ref) (c.number.ensures ∙ c.has.ensures.message_ref.0) (ap (λ (l : List Entry). numbered (world_at g.L.Site.plan l).messages (message_ref_number message_ref)) ((c.reserve_step.ensures.log ∙ ap (λ ts. entries_of (shown ts.items)) c.catch_up.ensures.log.0) ∙ c.has.ensures.log) ∙ c.has.ensures.is) (step_of c.args.prepared (node_of node.segment)) c.requires.step
    (messages_of (listed c.apply-made.result)) (ap messages_of c.apply-made.ensures.answers)

pub invariant_of-self-2 : goal.invariant_of-self-2
invariant_of-self-2 g c =
    let plan = g.L.Site.plan in
    let node = c.args.self.now in
    let message_ref = c.args.message_ref.now in
    let now =
    becomes plan g.L.Site.slots 0 (journal_of c.reserve_step.new.log) (world_at plan (seen_at node.cursor)) (marked node.cursor) node.group node.member (node_of node.segment) node.who node.named node.state c.in_ok-reserve_step.ensures.agree (there_joined (world_at plan (journal_of c.reserve_step.new.log)) node.group c.from.result c.joined.result c.joined.ensures c.from.ensures c.if-from-joined.false)
    (message_ref_number message_ref) c.number.result (message_ref_message message_ref) (c.number.ensures ∙ c.has.ensures.message_ref.0) (ap (λ (l : List Entry). numbered (world_at g.L.Site.plan l).messages (message_ref_number message_ref)) ((c.reserve_step.ensures.log ∙ ap (λ ts. entries_of (shown ts.items)) c.catch_up.ensures.log.0) ∙ c.has.ensures.log) ∙ c.has.ensures.is) (step_of c.args.prepared (node_of node.segment)) c.requires.step in
    record {
      who = c.enter.ensures.cursor.0 ∙ c.reserve_step.ensures.cursor.0 ∙ node.who;
      of = same_of plan node.group node.member node.segment c.apply-made.new.self node.of c.apply-made.ensures.actor;
      named = node.named;
      state = c.apply-made.ensures.node ∙ sym now ∙ ap (λ (w : World). w.nodes node.group node.member) (sym c.enter.ensures.world) ∙ ap (λ (es : List Entry). (world_at plan es).nodes node.group node.member) (sym c.enter.ensures.cursor.1);
    }
