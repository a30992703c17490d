use Rattle.hydration.proofs.Gathering.{pieces-same, place-at, place-inside}
use Rattle.hydration.proofs.Readying.{changed-place, ready-place}
use Rattle.hydration.proofs.hydration.Hydration.prepare_at.Goals as goal
use Rattle.std.proofs.lemmas.Grind.{common_steps}
use Rattle.std.proofs.Common.{arith}
use Rattle.std.proofs.Common.{rules}

pub index_mut-requires : goal.index_mut-requires
index_mut-requires c = grind (arith, common_steps, c.requires.place, place-inside)

pub prepare_series-requires : goal.prepare_series-requires
prepare_series-requires c = grind (arith, common_steps, c.deref.ensures, c.deref-2.ensures, c.requires.place, c.index_mut.ensures.value, c.requires.piece, place-at)

pub returns-clause-copy : goal.returns-clause-copy
returns-clause-copy c = grind (arith, common_steps, c.requires.place, c.index_mut.ensures.value, c.deref.ensures, c.deref-2.ensures, c.prepare_series.ensures.change, changed-place)

pub returns-clause-ready : goal.returns-clause-ready
returns-clause-ready c = search (rules, c.requires.place, c.prepare_series.ensures.ready, ready-place, place-inside)

pub returns-clause-same : goal.returns-clause-same
returns-clause-same c = grind (arith, common_steps, c.requires.place, c.index_mut.ensures.value, c.prepare_series.ensures.same, pieces-same, place-inside)
