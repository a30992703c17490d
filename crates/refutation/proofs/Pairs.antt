-- Pairs of numbers by the two items of their arrays.
use Rattle.std.proofs.Common.{◌≡◌, suc, Ok, refl, arith, false, nat_eq}
use Rattle.serde_json.specs.Data.{Data, array, no_items, item}
use Rattle.serde_json.specs.Events.{items_len}
use Rattle.volume_model.specs.Common.{◌>>=◌}
use Rattle.refutation.specs.Reading.{two_of, number_to, pair_of}

pub pair_of-two : (d : Data) → pair_of d ≡ (two_of d >>= λ p. number_to 255 p.0 >>= λ a. number_to 255 p.1 >>= λ b. Ok (a, b))
unfolding pair_of two_of
pair_of-two (array no_items) = refl
pair_of-two (array (item x no_items)) = refl
pair_of-two (array (item x (item y no_items))) = refl
pair_of-two (array (item x (item y (item z ds)))) = let no : nat_eq (suc (suc (suc (items_len ds)))) 2 ≡ false = grind arith in rw no refl
pair_of-two d = refl
