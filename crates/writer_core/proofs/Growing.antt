-- Logs whose numbers grow.
use Rattle.std.proofs.Common.{◌≡◌, ℕ, ◌<◌, ◌≤◌, Bool, true, false, ◌&&◌, nat_lt, nat_eq, List, [], ◌∷◌, if◌then◌else◌, arith}
use Rattle.std.proofs.lemmas.Bool.Decides.{nat_tests}
use Rattle.volume_model.specs.Common.{Redo, last_lsn, last_of_group, last_of_block}
use Rattle.writer_core.specs.Logs.{is_growing}
use Rattle.std.proofs.lemmas.Grind.{common_steps}

pub both : (a b : ℕ) (rest : Bool) → (nat_lt a b && rest) ≡ true → (a < b) × (rest ≡ true)
both a b rest h = grind (arith, nat_tests)

pub last_of_group-le : (group : ℕ) (log : List Redo) → is_growing log ≡ true → last_of_group group log ≤ last_lsn log
last_of_group-le group [] h = omega arith
last_of_group-le group (r ∷ older) h =
    let (below, rest) = both (last_lsn older) r.lsn (is_growing older) h in
    let inner : last_of_group group older ≤ last_lsn older = last_of_group-le group older rest in
    elim (nat_eq r.group group) as (λ (b : Bool). (if b then r.lsn else last_of_group group older) ≤ r.lsn) [ true ↦ omega arith | false ↦ omega arith ]

pub last_of_block-le : (group block : ℕ) (log : List Redo) → is_growing log ≡ true → last_of_block group block log ≤ last_of_group group log
last_of_block-le group block [] h = omega arith
last_of_block-le group block (r ∷ older) h =
    let (below, rest) = both (last_lsn older) r.lsn (is_growing older) h in
    let inner : last_of_block group block older ≤ last_of_group group older = last_of_block-le group block older rest in
    grind (arith, common_steps, (last_of_group-le group older rest))
