-- What is spelled so is read again
use Rattle.std.proofs.Common.{◌≡◌, ℕ, ◌+◌, Bool, true, false, not, nat_lt, List, length, drop, Result, Ok, if◌then◌else◌, refl, sym, ap, ◌∙◌, arith, le-ltb}
use Rattle.volume_model.specs.Common.{Redo, refuse_if}
use Rattle.volume_model.specs.declared.fault.Fault.{Fault}
use Rattle.volume_model.specs.declared.fault.Fault.TheVariants.{Short, BadField, Trailing}
use Rattle.redo_record.specs.declared.head.Head.{Head}
use Rattle.redo_record.specs.Head.{head_in, is_allowed, redo_from, redo_in}
use Rattle.redo_record.specs.Ranges.{IsSpellable}
use Rattle.redo_record.specs.Spelling.{spelled, decoded}
use Rattle.std.proofs.lemmas.Grind.{common_steps}

-- the numbers of a record
abbrev head_for : Redo → Head
head_for r = record {
  lsn = r.lsn;
  volume_epoch = r.volume;
  prev_volume = r.prev_volume;
  prev_group = r.prev_group;
  prev_block = r.prev_block;
  group = r.group;
  block = r.block;
  offset = r.offset;
  point = if r.point then 1 else 0;
  length = length r.bytes;
}

head_in-spelled : (r : Redo) → IsSpellable r → head_in (spelled r) ≡ head_for r
unfolding spelled
head_in-spelled r s = grind (arith, common_steps)

drop-spelled : (r : Redo) → drop 45 (spelled r) ≡ r.bytes
unfolding spelled
drop-spelled r = refl

pub length-spelled : (r : Redo) → length (spelled r) ≡ 45 + length r.bytes
unfolding spelled
length-spelled r = omega arith

is_allowed-for : (r : Redo) → IsSpellable r → is_allowed (head_for r) ≡ true
is_allowed-for r s = grind (arith, common_steps)

redo_from-for : (r : Redo) → redo_from (head_for r) r.bytes ≡ r
redo_from-for r = grind (arith, common_steps)

-- the record that a spelling shows
pub redo_in-spelled : (r : Redo) → IsSpellable r → redo_in (spelled r) ≡ r
redo_in-spelled r s = ap (λ h. redo_from h (drop 45 (spelled r))) (head_in-spelled r s) ∙ ap (redo_from (head_for r)) (drop-spelled r) ∙ redo_from-for r

passes : {A : Type 0} (test : Bool) (fault : Fault) (rest : Result A Fault) → test ≡ false → refuse_if test fault rest ≡ rest
passes test fault rest e = rw e refl

pub decoded-spelled : (r : Redo) → IsSpellable r → decoded (spelled r) ≡ Ok r
unfolding decoded
decoded-spelled r s =
    let b : List ℕ = spelled r in
    let t0 : nat_lt (length b) 45 ≡ false = le-ltb (length b) 45 (omega (arith, length-spelled r)) in
    let t1 : not (is_allowed (head_in b)) ≡ false = ap (λ h. not (is_allowed h)) (head_in-spelled r s) ∙ ap not (is_allowed-for r s) in
    let same : (head_in b).length ≡ length (drop 45 b) = ap (λ (h : Head). h.length) (head_in-spelled r s) ∙ ap length (sym (drop-spelled r)) in
    let t2 : nat_lt (length (drop 45 b)) (head_in b).length ≡ false = le-ltb (length (drop 45 b)) (head_in b).length (omega arith) in
    let t3 : nat_lt (head_in b).length (length (drop 45 b)) ≡ false = le-ltb (head_in b).length (length (drop 45 b)) (omega arith) in
    passes _ Short _ t0 ∙ passes _ BadField _ t1 ∙ passes _ Short _ t2 ∙ passes _ Trailing _ t3 ∙ ap (λ x. Ok x) (redo_in-spelled r s)
