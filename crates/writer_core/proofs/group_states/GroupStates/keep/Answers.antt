use Rattle.writer_core.specs.GroupStates.{report_of, reported_group}
use Rattle.writer_core.proofs.Placing.{changed-ok, changed-err, changed-placed, changed-within}
use Rattle.writer_core.proofs.group_states.GroupStates.keep.Goals as goal
use Rattle.std.proofs.Common.{rules}

pub invariant_of-self : goal.invariant_of-self
invariant_of-self c = search (rules, c.in-Some.ensures.item.3.0, c.in-Some.ensures.value, c.keep.ensures.place, changed-within, changed-placed)

pub returns-in-Some-clause-kept : goal.returns-in-Some-clause-kept
returns-in-Some-clause-kept c = changed-ok c.keep.result (λ g. reported_group g (report_of c.args.report.now)) c.args.self.now.list.items c.from.result c.args.report.now.group c.in-Some.group_state.now c.keep.new.self c.in-Some.ensures.item.3.0 c.in-Some.ensures.value c.from.ensures c.keep.ensures.kept

pub returns-in-Some-clause-same : goal.returns-in-Some-clause-same
returns-in-Some-clause-same c = changed-err c.keep.result c.args.self.now.list.items c.from.result c.in-Some.group_state.now c.keep.new.self c.in-Some.ensures.item.3.0 c.in-Some.ensures.value c.keep.ensures.same
