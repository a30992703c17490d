-- Records that are linked, and those of one volume epoch
use Rattle.std.proofs.Common.{◌≡◌, ℕ, List, take, drop, Option, Some, None, arith}
use Rattle.volume_model.specs.Common.{IsIn, Redo}
use Rattle.volume_model.proofs.Basics.{IsIn-take, IsIn-drop}
use Rattle.redo_record.specs.SharedList.{IsKnownEpoch, AreLinked}
use Rattle.std.proofs.lemmas.Grind.{common_steps}

-- a part of linked records is linked
pub linked-part : (link : Redo → ℕ) (records : List Redo) (from len : ℕ) → AreLinked link records → AreLinked link (take len (drop from records))
linked-part link records from len linked i d l = grind (arith, common_steps)

-- a part of records of a volume epoch is of it
pub known_epoch-part : (known : Option ℕ) (records : List Redo) (from len : ℕ) → IsKnownEpoch known records → IsKnownEpoch known (take len (drop from records))
known_epoch-part known records from len kept epoch e r i = kept epoch e r (IsIn-drop from records r (IsIn-take len (drop from records) r i))

pub known_epoch-none : (records : List Redo) → IsKnownEpoch None records
known_epoch-none records epoch e = grind (arith, common_steps)

pub known_epoch-some : (known : ℕ) (records : List Redo) → ((r : Redo) → IsIn r records → r.volume ≡ known) → IsKnownEpoch (Some known) records
known_epoch-some known records all epoch e r i = grind (arith, common_steps)
