use Rattle.std.proofs.Common.{◌≡◌, map, take}
use Rattle.redo_record.specs.Common.{records_of}
use Rattle.hydration.specs.Kept.{sets_kept}
use Rattle.hydration.proofs.pieces.parts_of.Given as goal

abbrev pub invariant-loop-kept : goal.invariant-loop-kept
invariant-loop-kept l = map records_of l.parts.items ≡ sets_kept (take l.kept-index l.all)
