use Rattle.journal.specs.Passes.{notes_of, steps_of}
use Rattle.world.specs.Events.{event_of}
use Rattle.node_fleet.proofs.Calling.{lost_halt, records_refused, unmade_names}
use Rattle.node_fleet.proofs.fleet.Fleet.enter_client.Goals as goal

pub returns-in-Err-clause-recorded : goal.returns-in-Err-clause-recorded
returns-in-Err-clause-recorded g c =
    let first = c.args.pass.now in
    let new = c.try_client.new.pass in
    records_refused (event_of c.args.event) c.in-Err.halt c.refusal_of.result (steps_of first) (steps_of new)
    (notes_of first) (notes_of new) c.refusal_of.ensures c.in-Err.ensures.recorded

pub returns-in-Err-clause-unmade : goal.returns-in-Err-clause-unmade
returns-in-Err-clause-unmade g c lost = unmade_names (event_of c.args.event) (steps_of c.args.pass.now) c.in-Err.halt
    c.in-Err.ensures.unmade (lost_halt c.in-Err.halt c.refusal_of.result c.refusal_of.ensures lost)
