use Rattle.std.proofs.Common.{Ok, sym, length, ap, arith}
use Rattle.world.specs.Events.{made_by}
use Rattle.world.proofs.Numbers.{number_is, number_none, number_past, length-firsts_of}
use Rattle.world.proofs.orders.number_of.Goals as goal
use Rattle.std.proofs.Common.{rules}

pub returns : goal.returns
returns c = search (rules, c.from-made.ensures, c.made_by.ensures, c.from.ensures, c.requires, c.if-event-results.false, c.if-place-eq0.false, c.if-place-made.false, Ok, number_is)

pub returns-then-event-results : goal.returns-then-event-results
returns-then-event-results c = sym (number_past 0 c.args.results.now c.args.event c.args.place c.if-event-results.true)

pub returns-then-place-eq0 : goal.returns-then-place-eq0
returns-then-place-eq0 c = search (rules, c.from-made.ensures, c.made_by.ensures, c.if-event-results.false, Ok, number_none)

pub bounds-firsts-event : goal.bounds-firsts-event
bounds-firsts-event c = omega (arith, length-firsts_of 0 c.args.results.now, ap length c.requires)
