-- What several reads or writes come to.
use Rattle.std.proofs.Common.{◌∙◌, sym, ap, ℕ, List, ◌++◌, Option, None, Some, Result, Ok, Err, OnErr, IsErr, take}
use Rattle.std.proofs.KnownBytes.{Keeps-trans}
use Rattle.std.specs.Io.KnownBytes.{Appends, Consumes, Keeps, ReadConsumes, WriteAppends}
use Rattle.std.specs.declared.io.Error.{Error}
use Rattle.commands.specs.Failures.{ReadFails}

-- ---- calls that failed, and one more

Consumes-before : (a b c : Option (List ℕ)) (bs : List ℕ) → Keeps a b → Consumes b c bs → Consumes a c bs
Consumes-before None b c bs k h = tt
Consumes-before (Some x) None c bs k h = absurd k
Consumes-before (Some x) (Some y) None bs k h = absurd h
Consumes-before (Some x) (Some y) (Some z) bs k h = sym k ∙ h

Appends-before : (a b c : Option (List ℕ)) (bs : List ℕ) → Keeps a b → Appends b c bs → Appends a c bs
Appends-before None b c bs k h = tt
Appends-before (Some x) None c bs k h = absurd k
Appends-before (Some x) (Some y) None bs k h = absurd h
Appends-before (Some x) (Some y) (Some z) bs k h = h ∙ ap (λ l. l ++ bs) k

-- a read behind one that was refused
pub read_again : (a b c : Option (List ℕ)) (r s : Result ℕ Error) (old new : List ℕ) → IsErr r → ReadConsumes a b r old → ReadConsumes b c s new → ReadConsumes a c s new
read_again a b c (Ok n) s old new bad first next = absurd cc
read_again a b c (Err e) (Ok n) old new was first next = (Consumes-before a b c (take n new) first next.0, next.1)
read_again a b c (Err e) (Err f) old new was first next = Keeps-trans a b c first next

-- a write behind one that was refused
pub write_again : (a b c : Option (List ℕ)) (r s : Result ℕ Error) (bytes : List ℕ) → IsErr r → WriteAppends a b r bytes → WriteAppends b c s bytes → WriteAppends a c s bytes
write_again a b c (Ok n) s bytes bad first next = absurd cc
write_again a b c (Err e) (Ok n) bytes was first next = Appends-before a b c (take n bytes) first next
write_again a b c (Err e) (Err f) bytes was first next = Keeps-trans a b c first next

-- what a reader answered where it failed
pub read_fails : {R : Type 0} (answers : R → Result ℕ Error → Type 0) (reader : R) (r : Result ℕ Error) → answers reader r → OnErr r (ReadFails answers)
read_fails answers reader (Ok n) said = tt
read_fails answers reader (Err error) said = record { reader = reader; error = error; answered = said }

-- ---- bytes that grow
