-- What a writer does with an acknowledgement.
use Rattle.std.proofs.Common.{◌≡◌, ℕ, ◌≤◌, true, List, Ok}
use Rattle.volume_model.specs.Common.{Plan, Redo, Lineage, Label, Ack, ClientGroup, place_of, stays, Writing, raised, is_for, taken}
use Rattle.volume_model.specs.Client.{Client}
use Rattle.writer_core.specs.GroupStates.{counted_in}
use Rattle.std.proofs.lemmas.Grind.{common_steps}
use Rattle.std.proofs.Common.{arith}

-- the writer that keeps these of its groups
abbrev pub with_groups : List ClientGroup → Lineage → List Redo → List Redo → Client
with_groups groups lineage found log = record { stage = Writing; groups = groups; lineage = lineage; found = found; log = log }

-- it is counted, and the points are raised
pub ack_counted : (plan : Plan) (volume : ℕ) (groups now : List ClientGroup) (lineage : Lineage) (found log : List Redo) (group sender reached : ℕ) (label : Label) → is_for volume plan.groups (Ack group label sender reached) ≡ true
    → label.member ≤ (place_of groups group).epoch → now ≡ raised plan (counted_in groups group sender reached)
    → taken plan volume (with_groups groups lineage found log) (Ack group label sender reached) ≡ Ok (stays (with_groups now lineage found log))
ack_counted plan volume groups now lineage found log group sender reached label mine early all = grind (arith, common_steps)
