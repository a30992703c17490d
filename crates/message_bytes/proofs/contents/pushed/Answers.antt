use Rattle.std.proofs.Common.{[], ◌∷◌, ◌++◌, refl}
use Rattle.redo_record.specs.Common.{records_of, shared_redo}
use Rattle.redo_record.proofs.Merging.{merged-after}
use Rattle.message_bytes.proofs.contents.pushed.Goals as goal

pub push-requires : goal.push-requires
push-requires c = merged-after (records_of c.args.set) [] (records_of c.args.set ++ shared_redo c.args.packet ∷ []) (shared_redo c.args.packet) (c.if-not-comes_next.ensures.in_order refl) refl
