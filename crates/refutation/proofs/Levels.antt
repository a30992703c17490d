-- The rule of a form, level by level.
use Rattle.std.proofs.Common.{◌≡◌, ℕ, zero, suc, Err, refl, true, false}
use Rattle.volume_model.specs.declared.fault.Fault.TheVariants.{OverLimit}
use Rattle.refutation.specs.Reading.{Form, is_short, rule_from, rule_level, rule_at}

pub no_level : (left : ℕ) (form : Form) → left ≡ 0 → rule_level left form ≡ Err OverLimit
unfolding rule_level
no_level left form none = rw none refl

pub too_long : (left : ℕ) (form : Form) → is_short form ≡ false → rule_level left form ≡ Err OverLimit
unfolding rule_level
too_long zero form h = refl
too_long (suc left) form h = rw h refl

pub one_level : (left below : ℕ) (form : Form) → left ≡ suc below → is_short form ≡ true → rule_from (rule_at below) form ≡ rule_level left form
unfolding rule_level
one_level left below form more h = rw (more, h) refl
