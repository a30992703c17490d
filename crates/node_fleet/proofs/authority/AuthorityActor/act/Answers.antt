use Rattle.std.proofs.Common.{List, length, sym, ap, ◌∙◌}
use Rattle.volume_model.specs.Common.{world_at}
use Rattle.volume_model.specs.Journal.{Entry}
use Rattle.epochs.specs.Authority.{authority_of, authority_plan}
use Rattle.world.specs.Actions.{authority_acted}
use Rattle.world.specs.Events.{event_of}
use Rattle.journal.specs.Passes.{journal_of, marked, seen_at}
use Rattle.node_fleet.specs.Actions.{IsSpent}
use Rattle.node_fleet.proofs.Exactly.{attempt_exact}
use Rattle.node_fleet.proofs.Ruling.{authority_here, authority_refuses, ruled_state, slots_spent}
use Rattle.node_fleet.proofs.authority.AuthorityActor.act.Goals as goal

pub commit_or_note-requires-clause-exact : goal.commit_or_note-requires-clause-exact
commit_or_note-requires-clause-exact g c =
    let self = c.args.self.now in
    let plan = g.L.Site.plan in
    let action = c.args.action in
    let es = journal_of c.reserve_step.new.log in
    let w = world_at plan es in
    let own = authority_plan self.authority in
    let old = authority_of self.authority in
    let event = event_of c.of_authority.result in
    let here = authority_here (marked self.cursor) (world_at plan (seen_at self.cursor)) w old self.who c.in_default.ensures.agree self.state in
    let same = authority_refuses plan own self.plan w action old event here c.of_authority.ensures in
    let spends = slots_spent w action old event c.args.slots g.L.Site.slots here c.of_authority.ensures c.requires.slots
    in
    attempt_exact plan g.L.Site.slots (length g.L.Site.cells) es event (IsSpent action old c.args.slots)
    c.is_full.result (authority_acted own old action) spends c.is_full.ensures same c.try_step-done.result
    c.try_step-done.ensures.refused

pub invariant_of-self-2-clause-who : goal.invariant_of-self-2-clause-who
invariant_of-self-2-clause-who g c = c.commit_or_note.ensures.cursor ∙ c.reserve_step.ensures.cursor.0 ∙ c.args.self.now.who

pub invariant_of-self-2-clause-state : goal.invariant_of-self-2-clause-state
invariant_of-self-2-clause-state g c =
    let self = c.args.self.now in
    let plan = g.L.Site.plan in
    let action = c.args.action in
    let w = world_at plan (journal_of c.reserve_step.new.log) in
    let old = authority_of self.authority in
    let new = authority_of c.try_step-done.new.authority in
    let event = event_of c.of_authority.result in
    let here = authority_here (marked self.cursor) (world_at plan (seen_at self.cursor)) w old self.who c.in_default.ensures.agree self.state in
    let was = self.state ∙ ap (λ (l : List Entry). (world_at plan l).authority) (sym c.reserve_step.ensures.cursor.2) in
    ruled_state plan (authority_plan self.authority) self.plan w action old new event here c.of_authority.ensures
    c.try_step-done.result c.try_step-done.ensures.done c.try_step-done.ensures.still
    (seen_at c.reserve_step.new.cursor) (seen_at c.commit_or_note.new.cursor) was c.commit_or_note.ensures.seen
