use Rattle.std.proofs.Common.{◌≡◌, ℕ, drop, ◌||◌}
use Rattle.std.specs.FinSet.{contains}
use Rattle.volume_model.specs.Common.{copied_by}
use Rattle.hydration.specs.KeptCopies.{all_kept_copies}
use Rattle.hydration.proofs.brought.copied_by.Given as goal

abbrev pub invariant-loop-copy : goal.invariant-loop-copy
invariant-loop-copy l = (x : ℕ) → (contains l.members x || copied_by (all_kept_copies (drop l.copy-index l.copies)) x) ≡ copied_by (all_kept_copies l.copies) x
