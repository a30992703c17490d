use Rattle.std.proofs.Common.{◌≡◌, ℕ, drop, ◌||◌}
use Rattle.std.specs.FinSet.{contains}
use Rattle.volume_model.specs.Common.{senders}
use Rattle.hydration.specs.Copies.{copies_in}
use Rattle.hydration.proofs.found.senders.Given as goal

abbrev pub invariant-loop-copy : goal.invariant-loop-copy
invariant-loop-copy l = (x : ℕ) → (contains l.members x || senders (copies_in (drop l.copy-index l.copies)) x) ≡ senders (copies_in l.copies) x
