-- Why an output has failed.
use Rattle.std.proofs.Common.{◌≡◌, ◌∙◌, inl, inr, sym, true, ℕ, List, Option, Result, Ok, Err, OnErr, OnOk}
use Rattle.std.specs.declared.io.Error.{Error}
use Rattle.commands.specs.Failures.{WriteFails}
use Rattle.commands.specs.Streams.{Gets, IsUnwritable, is_broken}
use Rattle.commands.specs.declared.outputs.Output.{Output}

-- what got a text fails only where it had failed, or a write fails
pub still : {W : Type 0} (contents : W → Option (List ℕ)) (answers : W → List ℕ → Result ℕ Error → Type 0) (old new : Output W) (text : List ℕ) → Gets contents old new text → IsUnwritable answers new → IsUnwritable answers old
still contents answers old new text g (inl broken) = inl (sym g.whole ∙ broken)
still contents answers old new text g (inr fails) = inr fails

-- what was written to
pub written_to : {W T F : Type 0} (contents : W → Option (List ℕ)) (answers : W → List ℕ → Result ℕ Error → Type 0) (old new : Output W) (text : List ℕ) (r : Result T F) → OnOk r (Gets contents old new text) → OnErr r (WriteFails answers) → is_broken new ≡ true → IsUnwritable answers old
written_to contents answers old new text (Ok x) g fails broken = still contents answers old new text g (inl broken)
written_to contents answers old new text (Err e) g fails broken = inr fails
