use Rattle.std.proofs.Common.{◌+◌, ◌-◌, length}
use Rattle.world.specs.Clients.{HasSameClients}
use Rattle.world.proofs.clients.fill_up.Given as goal

abbrev pub invariant-loop-clients : goal.invariant-loop-clients
invariant-loop-clients l = HasSameClients l.fn.clients.items l.clients.items

abbrev pub decreases-loop-clients : goal.decreases-loop-clients
decreases-loop-clients l = l.place + 1 - length l.clients.items
