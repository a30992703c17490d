-- When reads and writes fail.
use Rattle.std.specs.Prelude.{◌≡◌, ℕ, ◌<◌, List, length, ◌++◌, Option, Result, Ok, Err}
use Rattle.std.specs.Io.KnownBytes.{Consumes}
use Rattle.std.specs.declared.io.Error.{Error}

-- A read of a reader failed.
pub record ReadFails {R : Type 0} (answers : R → Result ℕ Error → Type 0) : Type 0 where
  pub reader : R
  pub error : Error
  pub answered : answers reader (Err error)

-- A write of these bytes to a writer had this result.
pub record WasAnswered {W : Type 0} (answers : W → List ℕ → Result ℕ Error → Type 0) (bytes : List ℕ)
    (answer : Result ℕ Error) : Type 0 where
  pub writer : W
  pub answered : answers writer bytes answer

-- A write to a writer failed, or took none of its bytes.
pub data WriteFails {W : Type 0} (answers : W → List ℕ → Result ℕ Error → Type 0) : Type 0 where
  refused : (bytes : List ℕ) (error : Error) → WasAnswered answers bytes (Err error) → WriteFails answers
  untaken : (bytes : List ℕ) → 0 < length bytes → WasAnswered answers bytes (Ok 0) → WriteFails answers

-- These bytes grew by what was read in between.
pub record GrowsBy (old new : Option (List ℕ)) (before after : List ℕ) : Type 0 where
  pub bytes : List ℕ
  pub added : after ≡ before ++ bytes
  pub read : Consumes old new bytes
