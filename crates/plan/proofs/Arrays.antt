-- Arrays, and how many items they have.
use Rattle.std.proofs.Common.{◌≡◌, ℕ, ◌<◌, ◌≤◌, min, Err, refl, ap, arith, nat_le, if◌then◌else◌}
use Rattle.std.specs.FinSet.{empty}
use Rattle.serde_json.specs.Data.{Data, array}
use Rattle.serde_json.specs.Events.{items_len}
use Rattle.quorum_expr.specs.Common.{items_in}
use Rattle.volume_model.specs.declared.fault.Fault.TheVariants.{Malformed}
use Rattle.plan.specs.PlanText.{members_from, members_of, some_members_of}
use Rattle.std.proofs.lemmas.Grind.{common_steps}

pub none_listed : (d : Data) (n : ℕ) → n ≡ min (items_len (items_in d)) 1 → n < 1 → some_members_of d ≡ Err Malformed
unfolding some_members_of
none_listed (array ds) n h few = let none : items_len ds ≡ 0 = omega (arith, h, few) in ap (λ k. if nat_le 1 k then members_from 0 empty ds else Err Malformed) none
none_listed d n h few = refl

pub some_listed : (d : Data) (n : ℕ) → n ≡ min (items_len (items_in d)) 1 → 1 ≤ n → some_members_of d ≡ members_of d
unfolding some_members_of members_of
some_listed (array ds) n h more = grind (arith, common_steps)
some_listed d n h more = refl
