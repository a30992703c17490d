-- A handle owns the same as a box, or nothing.
use base.Fml.{Fml, ftrue}
use base.Stored.{Coded}
use denote.RawPtr.{Ptr}
use Rattle.std.specs.Prelude.{Option, Some, None}
use Rattle.std.specs.Box.Ownership.{box_owns}
use Rattle.std.specs.Global.{Global}
use Rattle.std_heap.specs.contracts.GlobalAllocator.TheImpl.{ghosts}
use Rattle.volume_c.specs.contracts.actor.Held.{the_row}

abbrev pub sealed_owns : Global → Ptr → Option the_row.Denot → Fml
sealed_owns alloc p None = ftrue
sealed_owns alloc p (Some x) = box_owns (ghosts.dealloc_token alloc) the_row p x

abbrev pub held_coded : Coded the_row.Denot
held_coded = the_row.coded
