use Rattle.std.proofs.Common.{List, length, Err, refl, sym, ap, ◌∙◌, subst}
use Rattle.volume_model.specs.Common.{Exact, world_at, numbered, Deliver}
use Rattle.volume_model.specs.Journal.{Entry}
use Rattle.segment_core.specs.Segment.{node_of}
use Rattle.wire.specs.Common.{listed}
use Rattle.journal.specs.Entries.{entries_of}
use Rattle.journal.specs.Passes.{journal_of, message_ref_message, message_ref_number, marked, seen_at}
use Rattle.journal.specs.Tokens.{shown}
use Rattle.node_fleet.specs.declared.halt.Halt.{Halt}
use Rattle.node_fleet.specs.RecordsAttempt.{IsExact}
use Rattle.node_fleet.specs.Nodes.{delivery_of}
use Rattle.node_fleet.proofs.NodeSteps.{declines, letter_own, not_joined, not_lost, there_joined, unjoined_delivery}
use Rattle.node_fleet.proofs.node.NodeActor.decline.Goals as goal

pub refused-requires-clause-exact : goal.refused-requires-clause-exact
refused-requires-clause-exact g c =
    let node = c.args.self.now in
    let now = world_at g.L.Site.plan (journal_of c.reserve_step.new.log) in
    unjoined_delivery g.L.Site.plan now node.group node.member c.number.result (not_joined now node.group c.from.result c.joined.result c.joined.ensures c.from.ensures c.if-from-joined.true)

pub refused-requires-2-clause-exact : goal.refused-requires-2-clause-exact
refused-requires-2-clause-exact g c =
    let plan = g.L.Site.plan in
    let node = c.args.self.now in
    let message_ref = c.args.message_ref.now in
    let es = journal_of c.reserve_step.new.log in
    let own = letter_own plan node.group node.member (node_of node.segment) (listed message_ref.entry.now.made) message_ref.index message_ref.inside in
    declines plan g.L.Site.slots (length g.L.Site.cells) es (world_at plan (seen_at node.cursor)) (marked node.cursor) node.group node.member (node_of node.segment) node.who node.named node.state c.in_ok-reserve_step.ensures.agree (there_joined (world_at plan es) node.group c.from.result c.joined.result c.joined.ensures c.from.ensures c.if-from-joined.false)
    (message_ref_number message_ref) c.number.result (message_ref_message message_ref) own (c.number.ensures ∙ c.has.ensures.message_ref.0) (ap (λ (l : List Entry). numbered (world_at g.L.Site.plan l).messages (message_ref_number message_ref)) ((c.reserve_step.ensures.log ∙ ap (λ ts. entries_of (shown ts.items)) c.catch_up.ensures.log.0) ∙ c.has.ensures.log) ∙ c.has.ensures.is) c.args.fault c.requires.fails

pub returns-clause-exact : goal.returns-clause-exact
returns-clause-exact g c =
    let plan = g.L.Site.plan in
    let slots = g.L.Site.slots in
    let cells = length g.L.Site.cells in
    let node = c.args.self.now in
    let message_ref = c.args.message_ref.now in
    let event = Deliver node.group node.member (message_ref_number message_ref) in
    let es = journal_of c.reserve_step.new.log in
    let own = letter_own plan node.group node.member (node_of node.segment) (listed message_ref.entry.now.made) message_ref.index message_ref.inside in
    let here =
    declines plan slots cells es (world_at plan (seen_at node.cursor)) (marked node.cursor) node.group node.member (node_of node.segment) node.who node.named node.state c.in_ok-reserve_step.ensures.agree (there_joined (world_at plan es) node.group c.from.result c.joined.result c.joined.ensures c.from.ensures c.if-from-joined.false)
    (message_ref_number message_ref) (message_ref_number message_ref) (message_ref_message message_ref) own refl (ap (λ (l : List Entry). numbered (world_at g.L.Site.plan l).messages (message_ref_number message_ref)) ((c.reserve_step.ensures.log ∙ ap (λ ts. entries_of (shown ts.items)) c.catch_up.ensures.log.0) ∙ c.has.ensures.log) ∙ c.has.ensures.is) c.args.fault c.requires.fails in
    subst (λ (h : Halt). IsExact plan slots cells (journal_of c.args.log.now) event (Err h)) (sym c.refused-2.ensures.halt)
    (subst (λ (es : List Entry). Exact plan slots cells es event c.args.fault) ((c.in_ok-reserve_step.ensures.log ∙ ap (λ ts. entries_of (shown ts.items)) c.catch_up.ensures.log.0) ∙ c.has.ensures.log) here)

pub returns-clause-found : goal.returns-clause-found
returns-clause-found g c e =
    let node = c.args.self.now in
    let message_ref = c.args.message_ref.now in
    let own = letter_own g.L.Site.plan node.group node.member (node_of node.segment) (listed message_ref.entry.now.made) message_ref.index message_ref.inside in
    not_lost (delivery_of node (message_ref_message message_ref)) c.args.fault own c.requires.fails cc
