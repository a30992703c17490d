use Rattle.world.proofs.orders.follow.Goals as goal

pub returns-in-DeliverFrom-clause-steps : goal.returns-in-DeliverFrom-clause-steps
returns-in-DeliverFrom-clause-steps c = rw (c.in-DeliverFrom.is, ← c.number_of-message.ensures) c.deliver.ensures.steps

pub returns-in-Event-clause-steps : goal.returns-in-Event-clause-steps
returns-in-Event-clause-steps c = rw (c.in-Event.is, ← c.deref.ensures) c.step.ensures.steps

pub returns-in-TakeFrom-clause-steps : goal.returns-in-TakeFrom-clause-steps
returns-in-TakeFrom-clause-steps c = rw (c.in-TakeFrom.is, ← c.number_of-message-in-TakeFrom.ensures) c.take.ensures.steps
