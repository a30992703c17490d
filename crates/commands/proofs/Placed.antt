-- How an answer reaches its places.
use Rattle.std.proofs.Common.{◌≡◌, ◌⊎◌, inl, inr, refl, ℕ, List, Bool, Option, Result, Ok, Err, OnErr, OnOk, ◌≢◌, ◌++◌, true, IsSome}
use Rattle.commands.specs.Answer.{Answer, IsSaid, no_memory}
use Rattle.commands.specs.Places.{EndsIn, IsShown, IsUnsaved, Reaches, SaysUnsaved, Saves}
use Rattle.commands.specs.Places.IsShown.{same}
use Rattle.commands.specs.Places.Reaches.{printed, saved, unsaved}
use Rattle.commands.specs.Places.Saves.{saved as file_saved, unsaved as file_unsaved}
use Rattle.commands.specs.Stops.{is_input_stop, stop_answer, stop_line}
use Rattle.commands.specs.Streams.{Ends, Gets, is_broken}
use Rattle.commands.specs.declared.outputs.Output.{Output}
use Rattle.commands.specs.declared.reply.Stop.{Stop}
use Rattle.commands.proofs.Given.{gets_both}
use Rattle.commands.proofs.Says.{not_yes}

-- a line, after what was there
pub said_after : {E : Type 0} (err : E → Option (List ℕ)) (before mid new : Output E) (text line : List ℕ) → Gets err before mid text → Gets err mid new line ⊎ (is_broken new ≡ true)
    → Gets err before new (text ++ line) ⊎ (is_broken new ≡ true)
said_after err before mid new text line g (inl h) = inl (gets_both err before mid new text line g h)
said_after err before mid new text line g (inr broken) = inr broken

-- the text is written to a file, or isn't
pub to_file : {F O E : Type 0} {holds : F → Option (List ℕ)} {out : O → Option (List ℕ)} {err : E → Option (List ℕ)} {pretty : Bool} {name : Option (List ℕ)} {status now : ℕ} {text shown notes : List ℕ} {file_old file_new : F}
    {at : Output O} {before new : Output E} → IsSome name → status ≡ 0 → IsShown pretty text shown → Saves holds err name shown notes now file_old file_new before new
    → Reaches holds out err pretty name (record { status = status; out = text; err = notes }) now file_old file_new at at before new
to_file named zero shows (file_saved done is said) = saved named zero done _ shows is refl said
to_file named zero shows (file_unsaved two kept line why says) = unsaved two kept refl line why says

-- why a job ends before its answer
pub refused_in : {F O E : Type 0} {holds : F → Option (List ℕ)} {out : O → Option (List ℕ)} {err : E → Option (List ℕ)} {pretty : Bool} {name : Option (List ℕ)} {status : ℕ} {file : F} {out_old out_new : Output O}
    {err_old err_new : Output E} (stop : Stop) → Ends out err (IsSaid (stop_answer stop)) status out_old out_new err_old err_new → EndsIn holds out err pretty name (IsSaid (stop_answer stop)) status file file out_old out_new err_old err_new
refused_in stop h = record { answer = h.answer; due = h.due; reaches = printed (inr (some_status stop h.answer h.due)) h.answer.out (same refl) h.given refl } where
  some_status : (stop : Stop) (a : Answer) → IsSaid (stop_answer stop) a → a.status ≢ 0
  some_status stop a (inl is) = not_yes a (is_input_stop stop) (stop_line stop) is
  some_status stop a (inr out) = not_yes a true no_memory.err out

-- an answer that is due is one that is due otherwise
pub ends_in_by : {F O E : Type 0} {holds : F → Option (List ℕ)} {out : O → Option (List ℕ)} {err : E → Option (List ℕ)} {pretty : Bool} {name : Option (List ℕ)} {P Q : Answer → Type 0} {status : ℕ} {file_old file_new : F}
    {out_old out_new : Output O} {err_old err_new : Output E} → EndsIn holds out err pretty name P status file_old file_new out_old out_new err_old err_new → ((answer : Answer) → P answer → Q answer)
    → EndsIn holds out err pretty name Q status file_old file_new out_old out_new err_old err_new
ends_in_by h f = record { answer = h.answer; due = f h.answer h.due; reaches = h.reaches }

-- a line that was written, or not
pub says_line : {E T F : Type 0} (err : E → Option (List ℕ)) (name : Option (List ℕ)) (old new : Output E) (line : List ℕ) (r : Result T F) → OnOk r (Gets err old new line) → OnErr r (is_broken new ≡ true) → IsUnsaved name line → SaysUnsaved err name old new
says_line err name old new line (Ok x) written lost why = record { line = line; why = why; said = inl written }
says_line err name old new line (Err e) written lost why = record { line = line; why = why; said = inr lost }
