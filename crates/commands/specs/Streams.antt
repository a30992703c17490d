-- Reads of files, and writes to outputs.
use Rattle.std.specs.Prelude.{◌≡◌, ◌⊎◌, ℕ, List, [], ◌++◌, Bool, true, Option, None, Result, Ok, Err, IfSome, IsErr, codes, take}
use Rattle.std.specs.Io.KnownBytes.{Appends}
use Rattle.std.specs.declared.io.Error.{Error}
use Rattle.commands.specs.Answer.{Answer}
use Rattle.commands.specs.Failures.{ReadFails, WriteFails}
use Rattle.commands.specs.declared.files.Source.{Source}
use Rattle.commands.specs.declared.outputs.Output.{Output}

-- ---- files

-- the bytes that an opened file has left, if they are known
abbrev pub left_in : {R : Type 0} → (R → Option (List ℕ)) → Result R Error → Option (List ℕ)
left_in remaining (Ok reader) = remaining reader
left_in remaining (Err error) = None

-- the bytes that a file has left, if they are known
abbrev pub left_of : {R : Type 0} → (R → Option (List ℕ)) → Source R → Option (List ℕ)
left_of remaining source = left_in remaining source.file

-- a read of the file has failed
abbrev pub is_unread : {R : Type 0} → Source R → Bool
is_unread source = source.failed

-- Why a file can't be read: it couldn't be opened, a read of it had failed before, or one fails now.
pub data IsUnreadable {R : Type 0} (answers : R → Result ℕ Error → Type 0) (source : Source R) : Type 0 where
  unopened : IsErr source.file → IsUnreadable answers source
  had_failed : is_unread source ≡ true → IsUnreadable answers source
  fails : ReadFails answers → IsUnreadable answers source

-- A read of the file failed only for such a reason.
abbrev pub FailsByRead : {R : Type 0} → (R → Result ℕ Error → Type 0) → Source R → Source R → Type 0
FailsByRead answers old new = is_unread new ≡ true → IsUnreadable answers old

-- the text that is read if a file has these bytes: at most one byte more than allowed
abbrev pub IsTextOf : Option (List ℕ) → List ℕ → Type 0
IsTextOf known text = IfSome known (λ bytes. text ≡ take 16777217 bytes)

-- ---- outputs

-- a write to the output has failed
abbrev pub is_broken : {W : Type 0} → Output W → Bool
is_broken output = output.failed

-- where an output's bytes go
abbrev pub writer_of : {W : Type 0} → Output W → W
writer_of output = output.writer

-- Why an output can't be written: a write to it failed before, or one fails now.
abbrev pub IsUnwritable : {W : Type 0} → (W → List ℕ → Result ℕ Error → Type 0) → Output W → Type 0
IsUnwritable answers output = (is_broken output ≡ true) ⊎ WriteFails answers

-- A write to the output failed only for such a reason.
abbrev pub FailsByWrite : {W : Type 0} → (W → List ℕ → Result ℕ Error → Type 0) → Output W → Output W → Type 0
FailsByWrite answers old new = is_broken new ≡ true → IsUnwritable answers old

-- exactly this text was written to an output
pub record Gets {W : Type 0} (contents : W → Option (List ℕ)) (old new : Output W) (text : List ℕ) : Type 0 where
  pub added : Appends (contents (writer_of old)) (contents (writer_of new)) text
  pub whole : is_broken new ≡ is_broken old
  pub untouched : text ≡ [] → new ≡ old

-- the line of an output that can't be written
abbrev pub unwritten_line : List ℕ
unwritten_line = codes "output: cannot write\n"

-- This is printed. If standard output fails, the status is 2, and standard error gets a line unless it fails too.
abbrev pub HasPrinted : {O E : Type 0} → (O → Option (List ℕ)) → (E → Option (List ℕ)) → ℕ → List ℕ → ℕ → Output O
    → Output O → Output E → Output E → Type 0
HasPrinted out err wanted text status out_old out_new err_old err_new =
    ((status ≡ wanted) × Gets out out_old out_new text × (err_new ≡ err_old))
    ⊎ ((status ≡ 2) × (is_broken out_new ≡ true) × (Gets err err_old err_new unwritten_line
    ⊎ (is_broken err_new ≡ true)))

-- An answer is written, first to standard error, then to standard output. If either fails the status is 2. If standard
-- error fails, nothing is printed. If standard output fails, standard error gets one more line, unless it fails too.
pub data Delivers {O E : Type 0} (out : O → Option (List ℕ)) (err : E → Option (List ℕ)) (answer : Answer) (status : ℕ)
    (out_old out_new : Output O) (err_old err_new : Output E) : Type 0 where
  given : status ≡ answer.status → Gets out out_old out_new answer.out → Gets err err_old err_new answer.err
      → Delivers out err answer status out_old out_new err_old err_new
  unreported : status ≡ 2 → is_broken err_new ≡ true → out_new ≡ out_old → Delivers out err answer status out_old
      out_new err_old err_new
  unprinted : status ≡ 2 → is_broken out_new ≡ true → (Gets err err_old err_new (answer.err ++ unwritten_line)
      ⊎ (is_broken err_new ≡ true)) → Delivers out err answer status out_old out_new err_old err_new

-- An answer for which Due holds is written.
pub record Ends {O E : Type 0} (out : O → Option (List ℕ)) (err : E → Option (List ℕ)) (Due : Answer → Type 0)
    (status : ℕ) (out_old out_new : Output O) (err_old err_new : Output E) : Type 0 where
  pub answer : Answer
  pub due : Due answer
  pub given : Delivers out err answer status out_old out_new err_old err_new
