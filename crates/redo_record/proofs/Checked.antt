-- What bytes have that spell a record.
use Rattle.std.proofs.Common.{◌≡◌, ℕ, ◌≤◌, Bool, true, false, not, nat_lt, List, length, drop, Result, Ok, is_ok, refl, arith}
use Rattle.volume_model.specs.Common.{refuse_if}
use Rattle.volume_model.specs.declared.fault.Fault.{Fault}
use Rattle.redo_record.specs.Head.{head_in, is_allowed, redo_in}
use Rattle.redo_record.specs.Spelling.{spelled, decoded}
use Rattle.redo_record.proofs.Spelled.{IsBytes, allowed_facts, spelled_again}
use Rattle.std.proofs.lemmas.Grind.{common_steps}

-- the bytes are long enough, their numbers are allowed, and the other bytes are as many as they say
pub record IsSpelling (bytes : List ℕ) : Type 0 where
  pub long : 45 ≤ length bytes
  pub allowed : is_allowed (head_in bytes) ≡ true
  pub whole : length (drop 45 bytes) ≡ (head_in bytes).length
  pub redo : decoded bytes ≡ Ok (redo_in bytes)

-- what isn't refused passes the test
passed : {A : Type 0} (test : Bool) (fault : Fault) (rest : Result A Fault) → is_ok (refuse_if test fault rest) ≡ true → (test ≡ false) × (is_ok rest ≡ true) × (refuse_if test fault rest ≡ rest)
passed true fault rest e = absurd (let no : false ≡ true = e in cc)
passed false fault rest e = (refl, e, refl)

-- bytes that are decoded spell a record
pub spelling-of_ok : (bytes : List ℕ) → is_ok (decoded bytes) ≡ true → IsSpelling bytes
unfolding decoded
spelling-of_ok bytes e = grind (arith, common_steps, (passed (nat_lt (length bytes) 45) _ _ e), (not (is_allowed (head_in bytes))))

-- they are the one spelling of the record that they show
pub spelling-again : (bytes : List ℕ) → IsBytes bytes → IsSpelling bytes → spelled (redo_in bytes) ≡ bytes
spelling-again bytes small is = spelled_again bytes small is.long (allowed_facts (head_in bytes) is.allowed).point_is_flag is.whole
