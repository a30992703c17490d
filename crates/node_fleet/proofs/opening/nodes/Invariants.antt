use Rattle.std.proofs.Common.{◌≡◌, [], vec_len}
use Rattle.journal.specs.Fronts.{log_of}
use Rattle.node_fleet.proofs.Homes.{AreHomes}
use Rattle.node_fleet.proofs.opening.nodes.Given as goal

abbrev pub invariant-loop-slot : goal.invariant-loop-slot
invariant-loop-slot g l = record {
  long : vec_len l.made ≡ l.slot;
  history : log_of l.history.opened ≡ [];
  homes : AreHomes g.L.Site.plan l.made.items;
}
