-- A value of JSON, and what it spells at its own level.
use Rattle.std.proofs.Common.{◌≡◌, ◌<◌, ℕ, zero, suc, List, map, Result, Ok, Err, refl, arith}
use Rattle.serde_json.specs.Data.{Data}
use Rattle.volume_model.specs.declared.fault.Fault.{Fault}
use Rattle.volume_model.specs.declared.fault.Fault.TheVariants.{NoMemory, TooDeep}
use Rattle.volume_model.specs.Common.{Fails}
use Rattle.volume_model.specs.Formula.{member}
use Rattle.quorum_expr.specs.declared.form.Lists.{Lists}
use Rattle.quorum_expr.specs.Reading.{members_at, Form, form_of, formula_from, formula_at}

-- a definition that fails wherever another does
pub Fails-at : {X Y : Type 0} (f : Fault) (r : Result X Fault) (s : Result Y Fault) → (r ≡ Err f → s ≡ Err f) → Fails f r → Fails f s
Fails-at NoMemory r s k h = tt
Fails-at f r s k h = k h

pub too_deep : (lists : Lists) (left : ℕ) (d : Data) (f : Form) → left ≡ 0 → form_of lists d ≡ Ok f → formula_at lists left d ≡ Err TooDeep
unfolding formula_at
too_deep lists left d f none e = rw (none, e) refl

pub one_level : (lists : Lists) (left below : ℕ) (d : Data) (f : Form) → left ≡ suc below → form_of lists d ≡ Ok f → formula_at lists left d ≡ formula_from lists below (formula_at lists below) f
unfolding formula_at
one_level lists left below d f more e = rw (more, e) refl

pub no_form : (lists : Lists) (left : ℕ) (d : Data) (f : Fault) → Fails f (form_of lists d) → Fails f (formula_at lists left d)
unfolding formula_at
no_form lists zero d f h = Fails-at f (form_of lists d) (formula_at lists zero d) (λ e. rw e refl) h
no_form lists (suc left) d f h = Fails-at f (form_of lists d) (formula_at lists (suc left) d) (λ e. rw e refl) h

pub some_level : (left : ℕ) (ms : List ℕ) → 0 < left → members_at left ms ≡ Ok (map member ms)
some_level zero ms h = absurd (omega arith)
some_level (suc left) ms h = refl
