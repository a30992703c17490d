use Rattle.std.proofs.Common.{List, length, Err, sym, ap, ◌∙◌, subst}
use Rattle.volume_model.specs.declared.fault.Fault.TheVariants.{JournalFull, NoActor}
use Rattle.volume_model.specs.Common.{actor_of, Exact, world_at, NodeStep, makes, refusal, Event, World, after, step}
use Rattle.volume_model.specs.Journal.{Entry}
use Rattle.wire.specs.Common.{listed, messages_of}
use Rattle.segment_core.specs.Prepared.{step_of}
use Rattle.segment_core.specs.Segment.{node_of}
use Rattle.journal.specs.Entries.{entries_of}
use Rattle.journal.specs.Passes.{journal_of, marked, seen_at}
use Rattle.journal.specs.Tokens.{shown}
use Rattle.node_fleet.specs.declared.halt.Halt.{Halt}
use Rattle.node_fleet.specs.RecordsAttempt.{IsExact}
use Rattle.segment_core.specs.Actions.{acted}
use Rattle.world.specs.Actions.{node_event}
use Rattle.node_fleet.proofs.NodeSteps.{action_actor, action_fails, action_own, action_steps, denies, done, grants, not_joined, not_lost, same_of, there_joined, makes_step, unjoined_action}
use Rattle.node_fleet.proofs.node.NodeActor.act.Goals as goal

pub refused-requires-clause-exact : goal.refused-requires-clause-exact
refused-requires-clause-exact g c =
    let plan = g.L.Site.plan in
    let node = c.args.self.now in
    let now = world_at plan (journal_of c.reserve_step.new.log) in
    ap (λ (e : Event). refusal (step plan now e)) c.of_node-event.ensures
    ∙ unjoined_action plan now node.group node.member c.args.action (not_joined now node.group c.from.result c.joined.result c.joined.ensures c.from.ensures c.if-from-joined.true)

pub refused-requires-in-Err-clause-exact : goal.refused-requires-in-Err-clause-exact
refused-requires-in-Err-clause-exact g c =
    let plan = g.L.Site.plan in
    let slots = g.L.Site.slots in
    let cells = length g.L.Site.cells in
    let node = c.args.self.now in
    let es = journal_of c.reserve_step.new.log in
    subst (λ (e : Event). Exact plan slots cells es e c.in-Err.fault) (sym c.of_node-event.ensures)
    (denies plan slots cells es (world_at plan (seen_at node.cursor)) (marked node.cursor) node.group node.member (node_of node.segment) node.who node.named node.state c.in_ok-reserve_step.ensures.agree (there_joined (world_at plan es) node.group c.from.result c.joined.result c.joined.ensures c.from.ensures c.if-from-joined.false)
    c.args.action c.in-Err.fault (action_fails plan node.group node.member node.segment node.of c.args.action
    c.in-Err.fault c.in-Err.ensures.step))

pub enter-requires-clause-goes : goal.enter-requires-clause-goes
enter-requires-clause-goes g c =
    let plan = g.L.Site.plan in
    let node = c.args.self.now in
    let es = journal_of c.reserve_step.new.log in
    let made : NodeStep = step_of c.in-Ok.prepared (node_of node.segment) in
    ap (λ (e : Event). makes (step plan (world_at plan es) e)) c.of_node-event.ensures
    ∙ makes_step plan g.L.Site.slots 0 es (world_at plan (seen_at node.cursor)) (marked node.cursor) node.group node.member (node_of node.segment) node.who node.named node.state c.in_ok-reserve_step.ensures.agree (there_joined (world_at plan es) node.group c.from.result c.joined.result c.joined.ensures c.from.ensures c.if-from-joined.false)
    c.args.action made (action_steps plan node.group node.member node.segment node.of c.args.action made
    c.in-Ok.ensures.step)
    (messages_of (listed c.apply-made.result)) (ap messages_of c.apply-made.ensures.answers)

pub enter-requires-clause-who : goal.enter-requires-clause-who
enter-requires-clause-who g c =
    let node = c.args.self.now in
    ap actor_of c.of_node-event.ensures ∙ action_actor node.group node.member c.args.action ∙ sym node.who
    ∙ sym c.reserve_step.ensures.cursor.0

pub refused-requires-then-is_full-clause-exact : goal.refused-requires-then-is_full-clause-exact
refused-requires-then-is_full-clause-exact g c =
    let plan = g.L.Site.plan in
    let node = c.args.self.now in
    let es = journal_of c.reserve_step.new.log in
    let made : NodeStep = step_of c.in-Ok.prepared (node_of node.segment) in
    let goes =
    grants plan g.L.Site.slots 0 es (world_at plan (seen_at node.cursor)) (marked node.cursor) node.group node.member (node_of node.segment) node.who node.named node.state c.in_ok-reserve_step.ensures.agree (there_joined (world_at plan es) node.group c.from.result c.joined.result c.joined.ensures c.from.ensures c.if-from-joined.false)
    c.args.action made (action_steps plan node.group node.member node.segment node.of c.args.action made
    c.in-Ok.ensures.step) in (
      ap (λ (e : Event). refusal (step plan (world_at plan es) e)) c.of_node-event.ensures
          ∙ goes,
      c.if-is_full.ensures,
    )

pub returns-then-from-joined-clause-exact : goal.returns-then-from-joined-clause-exact
returns-then-from-joined-clause-exact g c =
    let plan = g.L.Site.plan in
    let slots = g.L.Site.slots in
    let cells = length g.L.Site.cells in
    let node = c.args.self.now in
    let event = node_event node.group node.member c.args.action in
    let es = journal_of c.reserve_step.new.log in
    let now = world_at plan es in
    let here : Exact plan slots cells es event NoActor = unjoined_action plan now node.group node.member c.args.action (not_joined now node.group c.from.result c.joined.result c.joined.ensures c.from.ensures c.if-from-joined.true) in
    subst (λ (h : Halt). IsExact plan slots cells (journal_of c.args.log.now) event (Err h)) (sym c.refused.ensures.halt)
    (subst (λ (es : List Entry). Exact plan slots cells es event NoActor) (c.in_ok-reserve_step.ensures.log ∙ ap (λ ts. entries_of (shown ts.items)) c.catch_up.ensures.log.0) here)

pub returns-in-Err-clause-exact : goal.returns-in-Err-clause-exact
returns-in-Err-clause-exact g c =
    let plan = g.L.Site.plan in
    let slots = g.L.Site.slots in
    let cells = length g.L.Site.cells in
    let node = c.args.self.now in
    let event = node_event node.group node.member c.args.action in
    let es = journal_of c.reserve_step.new.log in
    let here =
    denies plan slots cells es (world_at plan (seen_at node.cursor)) (marked node.cursor) node.group node.member (node_of node.segment) node.who node.named node.state c.in_ok-reserve_step.ensures.agree (there_joined (world_at plan es) node.group c.from.result c.joined.result c.joined.ensures c.from.ensures c.if-from-joined.false)
    c.args.action c.in-Err.fault (action_fails plan node.group node.member node.segment node.of c.args.action
    c.in-Err.fault c.in-Err.ensures.step) in
    subst (λ (h : Halt). IsExact plan slots cells (journal_of c.args.log.now) event (Err h)) (sym c.refused-in-Err.ensures.halt)
    (subst (λ (es : List Entry). Exact plan slots cells es event c.in-Err.fault) (c.in_ok-reserve_step.ensures.log ∙ ap (λ ts. entries_of (shown ts.items)) c.catch_up.ensures.log.0) here)

pub returns-in-Err-clause-found : goal.returns-in-Err-clause-found
returns-in-Err-clause-found g c e =
    let plan = g.L.Site.plan in
    let node = c.args.self.now in
    not_lost (acted c.args.action plan node.group node.member (node_of node.segment)) c.in-Err.fault
    (action_own plan node.group node.member (node_of node.segment) c.args.action)
    (action_fails plan node.group node.member node.segment node.of c.args.action c.in-Err.fault c.in-Err.ensures.step)
    cc

pub returns-then-is_full-clause-exact : goal.returns-then-is_full-clause-exact
returns-then-is_full-clause-exact g c =
    let plan = g.L.Site.plan in
    let slots = g.L.Site.slots in
    let cells = length g.L.Site.cells in
    let node = c.args.self.now in
    let event = node_event node.group node.member c.args.action in
    let es = journal_of c.reserve_step.new.log in
    let made : NodeStep = step_of c.in-Ok.prepared (node_of node.segment) in
    let goes =
    grants plan slots 0 es (world_at plan (seen_at node.cursor)) (marked node.cursor) node.group node.member (node_of node.segment) node.who node.named node.state c.in_ok-reserve_step.ensures.agree (there_joined (world_at plan es) node.group c.from.result c.joined.result c.joined.ensures c.from.ensures c.if-from-joined.false)
    c.args.action made (action_steps plan node.group node.member node.segment node.of c.args.action made
    c.in-Ok.ensures.step) in
    let here : Exact plan slots cells es event JournalFull = (goes, c.if-is_full.ensures) in
    subst (λ (h : Halt). IsExact plan slots cells (journal_of c.args.log.now) event (Err h)) (sym c.refused-then-is_full.ensures.halt)
    (subst (λ (es : List Entry). Exact plan slots cells es event JournalFull) (c.in_ok-reserve_step.ensures.log ∙ ap (λ ts. entries_of (shown ts.items)) c.catch_up.ensures.log.0) here)

pub invariant_of-self-2 : goal.invariant_of-self-2
invariant_of-self-2 g c =
    let plan = g.L.Site.plan in
    let node = c.args.self.now in
    let es = journal_of c.reserve_step.new.log in
    let made : NodeStep = step_of c.in-Ok.prepared (node_of node.segment) in
    let now =
    done plan g.L.Site.slots 0 es (world_at plan (seen_at node.cursor)) (marked node.cursor) node.group node.member (node_of node.segment) node.who node.named node.state c.in_ok-reserve_step.ensures.agree (there_joined (world_at plan es) node.group c.from.result c.joined.result c.joined.ensures c.from.ensures c.if-from-joined.false)
    c.args.action made (action_steps plan node.group node.member node.segment node.of c.args.action made
    c.in-Ok.ensures.step) in
    let left = ap (λ (e : Event). (after plan (world_at plan es) e).nodes node.group node.member)
    c.of_node-event.ensures ∙ now in
    record {
      who = c.enter.ensures.cursor.0 ∙ c.reserve_step.ensures.cursor.0 ∙ node.who;
      of = same_of plan node.group node.member node.segment c.apply-made.new.self node.of c.apply-made.ensures.actor;
      named = node.named;
      state = c.apply-made.ensures.node ∙ sym left ∙ ap (λ (w : World). w.nodes node.group node.member)
          (sym c.enter.ensures.world) ∙ ap (λ (es : List Entry). (world_at plan es).nodes node.group node.member)
          (sym c.enter.ensures.cursor.1);
    }
