-- Lists of packets that are cloned
use Rattle.std.proofs.Common.{◌≡◌, List, [], ◌∷◌, ◌++◌, map, refl}
use Rattle.std.proofs.lemmas.List.{map-append}
use Rattle.std.specs.List.{AllZip, AppendsClones}
use Rattle.volume_model.specs.Common.{Redo}
use Rattle.redo_record.specs.declared.shared_record.SharedRecord.{SharedRecord}
use Rattle.redo_record.specs.SharedRecord.{shared_redo}
use Rattle.std.proofs.lemmas.Grind.{common_steps}
use Rattle.std.proofs.Common.{arith}

-- the records of packets
abbrev pub redos : List SharedRecord → List Redo
redos packets = map shared_redo packets

-- a clone shares the record
abbrev pub IsCopy : SharedRecord → SharedRecord → Type 0
IsCopy packet copy = shared_redo copy ≡ shared_redo packet

-- the clones of packets have their records
pub redos-copied : (packets copies : List SharedRecord) → AllZip IsCopy packets copies → redos copies ≡ redos packets
redos-copied [] [] h = refl
redos-copied [] (copy ∷ copies) h = absurd h
redos-copied (packet ∷ packets) [] h = absurd h
redos-copied (packet ∷ packets) (copy ∷ copies) h = grind (arith, common_steps, redos, (redos-copied packets copies h.1))

-- with clones at its end a list has the records of both
pub redos-appended : (old now more : List SharedRecord) → AppendsClones IsCopy old now more → redos now ≡ redos old ++ redos more
redos-appended old now more h = grind (arith, common_steps, redos, map-append, redos-copied)
