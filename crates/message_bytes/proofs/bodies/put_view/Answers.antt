use Rattle.std.proofs.Common.{arith}
use Rattle.std.proofs.lemmas.List.{length-map}
use Rattle.message_bytes.proofs.Back.{view_back}
use Rattle.message_bytes.proofs.bodies.put_view.Goals as goal
use Rattle.std.proofs.lemmas.Grind.{common_steps}

pub returns-clause-reads : goal.returns-clause-reads
returns-clause-reads c = grind (arith, common_steps, c.deref-3.ensures.value, c.deref-2.ensures, c.in_ok-put_places.ensures.fits, c.in_ok-count.ensures.few, c.len.ensures, c.deref.ensures, c.in_ok-put_u32.ensures.fits, length-map, view_back)
