use Rattle.writer_core.specs.GroupStates.{counted_group}
use Rattle.writer_core.proofs.Placing.{changed-ok, changed-err, changed-placed, changed-within}
use Rattle.writer_core.proofs.group_states.GroupStates.count.Goals as goal
use Rattle.std.proofs.Common.{rules}

pub invariant_of-self : goal.invariant_of-self
invariant_of-self c = search (rules, c.in-Some.ensures.item.3.0, c.in-Some.ensures.value, c.count.ensures.place, changed-within, changed-placed)

pub returns-in-Some-clause-counted : goal.returns-in-Some-clause-counted
returns-in-Some-clause-counted c = changed-ok c.count.result (λ g. counted_group g c.args.ack.now.from c.args.ack.now.scl) c.args.self.now.list.items c.from.result c.args.ack.now.group c.in-Some.group_state.now c.count.new.self c.in-Some.ensures.item.3.0 c.in-Some.ensures.value c.from.ensures c.count.ensures.counted

pub returns-in-Some-clause-same : goal.returns-in-Some-clause-same
returns-in-Some-clause-same c = changed-err c.count.result c.args.self.now.list.items c.from.result c.in-Some.group_state.now c.count.new.self c.in-Some.ensures.item.3.0 c.in-Some.ensures.value c.count.ensures.same
