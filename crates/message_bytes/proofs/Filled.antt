-- Text that was written to a buffer.
use Rattle.std.proofs.Common.{◌≡◌, ◌++◌, ℕ, List, Result, Ok, Err, length, drop, take, sym, ap, ap₂, ◌∙◌, OnOk, take-append-drop}
use Rattle.volume_model.specs.Common.{Message}
use Rattle.message_bytes.specs.Reading.{message_in}
use Rattle.message_bytes.specs.Spelling.{message_spelled, IsReadBack}
use Rattle.message_bytes.proofs.Back.{message_again}

-- bytes were put to the front
pub filled : (old new bytes : List ℕ) (k : ℕ) → k ≡ length bytes → take k new ≡ take 0 old ++ bytes → drop k new ≡ drop k old → new ≡ bytes ++ drop (length bytes) old
filled old new bytes k is front back = sym (take-append-drop k new) ∙ ap₂ (λ (a b : List ℕ). a ++ b) front (back ∙ ap (λ (n : ℕ). drop n old) is)

-- what was written is read back
pub read_back : {A E : Type 0} (result : Result A E) (items : List ℕ) (m : Message) → OnOk result (items ≡ message_spelled m) → OnOk result (IsReadBack m) → OnOk result (message_in items ≡ Ok m)
read_back (Ok x) items m text back = ap message_in text ∙ message_again m back
read_back (Err e) items m text back = tt
