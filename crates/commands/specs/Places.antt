-- Where the answer of a job goes.
use Rattle.std.specs.Prelude.{◌≡◌, ◌≢◌, ◌⊎◌, ◌≤◌, ℕ, List, ◌++◌, Bool, true, Option, None, Some, IfSome, IsSome, codes, length, option_map}
use Rattle.commands.specs.Answer.{Answer}
use Rattle.commands.specs.Layout.{squeezed}
use Rattle.commands.specs.Streams.{Delivers, Gets, is_broken, unwritten_line}
use Rattle.commands.specs.declared.action.Job.{Job}
use Rattle.commands.specs.declared.outputs.Output.{Output}

-- What is printed in place of a text: the text; or, if it is to be laid out, a text of at most 16,777,216 bytes that is
-- the same without the blanks outside of JSON's texts.
pub data IsShown (pretty : Bool) (text shown : List ℕ) : Type 0 where
  same : shown ≡ text → IsShown pretty text shown
  laid : pretty ≡ true → squeezed shown ≡ squeezed text → length shown ≤ 16777216 → IsShown pretty text shown

-- the line that says that the file with this name can't be written
abbrev pub unsaved_line : List ℕ → List ℕ
unsaved_line name = codes "output: cannot write " ++ name ++ codes "\n"

-- why a text is neither printed nor written: the file can't be written, or memory ran out
pub data IsUnsaved (name : Option (List ℕ)) (line : List ℕ) : Type 0 where
  file : (file : List ℕ) → name ≡ Some file → line ≡ unsaved_line file → IsUnsaved name line
  output : line ≡ unwritten_line → IsUnsaved name line
  memory : line ≡ codes "input: 9 NoMemory\n" → IsUnsaved name line

-- An answer reaches its places. If a file is named and the answer's status is 0, the file gets the text, and standard
-- output nothing. Else the file isn't touched, and the answer is written as without a name. If the text can't be
-- written, the status is 2, the file holds what it held, and standard error gets a line, unless it fails too.
pub data Reaches {F O E : Type 0} (holds : F → Option (List ℕ)) (out : O → Option (List ℕ)) (err : E → Option (List ℕ))
    (pretty : Bool) (name : Option (List ℕ)) (answer : Answer) (status : ℕ) (file_old file_new : F)
    (out_old out_new : Output O) (err_old err_new : Output E) : Type 0 where
  printed : (name ≡ None) ⊎ (answer.status ≢ 0) → (shown : List ℕ) → IsShown pretty answer.out shown
      → Delivers out err (record { status = answer.status; out = shown; err = answer.err }) status out_old out_new
      err_old err_new → file_new ≡ file_old
      → Reaches holds out err pretty name answer status file_old file_new out_old out_new err_old err_new
  saved : IsSome name → answer.status ≡ 0 → status ≡ 0 → (shown : List ℕ) → IsShown pretty answer.out shown
      → IfSome (holds file_new) (λ bytes. bytes ≡ shown) → out_new ≡ out_old → Gets err err_old err_new answer.err
      → Reaches holds out err pretty name answer status file_old file_new out_old out_new err_old err_new
  unsaved : status ≡ 2 → holds file_new ≡ holds file_old → out_new ≡ out_old → (line : List ℕ) → IsUnsaved name line
      → Gets err err_old err_new (answer.err ++ line) ⊎ (is_broken err_new ≡ true)
      → Reaches holds out err pretty name answer status file_old file_new out_old out_new err_old err_new

-- An answer for which Due holds reaches its places.
pub record EndsIn {F O E : Type 0} (holds : F → Option (List ℕ)) (out : O → Option (List ℕ))
    (err : E → Option (List ℕ)) (pretty : Bool) (name : Option (List ℕ)) (Due : Answer → Type 0) (status : ℕ)
    (file_old file_new : F) (out_old out_new : Output O) (err_old err_new : Output E) : Type 0 where
  pub answer : Answer
  pub due : Due answer
  pub reaches : Reaches holds out err pretty name answer status file_old file_new out_old out_new err_old err_new

-- Standard error got such a line, unless it failed.
pub record SaysUnsaved {E : Type 0} (err : E → Option (List ℕ)) (name : Option (List ℕ)) (old new : Output E)
    : Type 0 where
  pub line : List ℕ
  pub why : IsUnsaved name line
  pub said : Gets err old new line ⊎ (is_broken new ≡ true)

-- A file gets a text, and standard error another; or the status is 2, the file holds what it held, and standard error
-- gets one more line, unless it fails.
pub data Saves {F E : Type 0} (holds : F → Option (List ℕ)) (err : E → Option (List ℕ)) (name : Option (List ℕ))
    (text notes : List ℕ) (status : ℕ) (file_old file_new : F) (err_old err_new : Output E) : Type 0 where
  saved : status ≡ 0 → IfSome (holds file_new) (λ bytes. bytes ≡ text) → Gets err err_old err_new notes
      → Saves holds err name text notes status file_old file_new err_old err_new
  unsaved : status ≡ 2 → holds file_new ≡ holds file_old → (line : List ℕ) → IsUnsaved name line
      → Gets err err_old err_new (notes ++ line) ⊎ (is_broken err_new ≡ true)
      → Saves holds err name text notes status file_old file_new err_old err_new

-- the name of the file to which a job's text goes, if one is named
abbrev pub output_of : Job → Option (List ℕ)
output_of job = option_map (λ name. name.now) job.output
