use Rattle.journal.specs.Passes.{notes_of, steps_of}
use Rattle.world.specs.Actions.{node_event}
use Rattle.node_fleet.proofs.Calling.{lost_halt, records_refused}
use Rattle.node_fleet.proofs.fleet.Fleet.node_step.Goals as goal

pub returns-in-Err-clause-recorded : goal.returns-in-Err-clause-recorded
returns-in-Err-clause-recorded g c =
    let first = c.args.pass.now.entered in
    let new = c.try_node.new.pass in
    records_refused (node_event c.args.group c.args.member c.args.action) c.in-Err.halt c.refusal_of.result
    (steps_of first) (steps_of new) (notes_of first) (notes_of new) c.refusal_of.ensures c.in-Err.ensures.recorded

pub returns-in-Err-clause-found : goal.returns-in-Err-clause-found
returns-in-Err-clause-found g c lost = c.in-Err.ensures.found (lost_halt c.in-Err.halt c.refusal_of.result c.refusal_of.ensures lost)
