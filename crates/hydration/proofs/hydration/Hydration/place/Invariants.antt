use Rattle.std.proofs.Common.{◌≡◌, ◌+◌, drop, option_map}
use Rattle.hydration.specs.KeptCopies.{all_kept_copies}
use Rattle.hydration.specs.Hydration.{place_of}
use Rattle.hydration.proofs.hydration.Hydration.place.Given as goal

abbrev pub invariant-loop-place : goal.invariant-loop-place
invariant-loop-place l = place_of (all_kept_copies l.self.copies.items) l.from ≡ option_map (λ k. l.place + k) (place_of (all_kept_copies (drop l.place l.self.copies.items)) l.from)
