-- The records of runs, each of which is of one block.
use Rattle.std.proofs.Common.{◌≡◌, ℕ, List, ◌++◌, map, subst, sym, arith}
use Rattle.std.proofs.lemmas.List.{length-append, length-map, get_or-map, get_or-append-add, get_or_append_left}
use Rattle.std.specs.List.{All}
use Rattle.volume_model.specs.Common.{Redo}
use Rattle.redo_record.specs.declared.shared_record.SharedRecord.{SharedRecord}
use Rattle.redo_record.specs.Common.{shared_redo}
use Rattle.std.proofs.lemmas.Grind.{common_steps}

-- each of the records is of the block
abbrev pub AreOfBlock : ℕ → List Redo → Type 0
AreOfBlock block records = All (λ r. r.block ≡ block) records

pub of_block-first : (block : ℕ) (some more : List Redo) → AreOfBlock block (some ++ more) → AreOfBlock block some
of_block-first block some more all k d l = grind (arith, common_steps, (get_or_append_left some more d k l), (length-append some more))

pub of_block-rest : (block : ℕ) (some more : List Redo) → AreOfBlock block (some ++ more) → AreOfBlock block more
of_block-rest block some more all k d l = grind (arith, common_steps, (get_or-append-add some more k d), (length-append some more))

-- packets that show records of a block are of the block
pub packets-of_block : (block : ℕ) (packets : List SharedRecord) (records : List Redo) → map shared_redo packets ≡ records → AreOfBlock block records → All (λ packet. (shared_redo packet).block ≡ block) packets
packets-of_block block packets records is all k d l =
    subst (λ (r : Redo). r.block ≡ block) (get_or-map shared_redo packets k d (shared_redo d) l)
    (subst (AreOfBlock block) (sym is) all k (shared_redo d) (simp length-map l))
