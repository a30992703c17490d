use Rattle.std.proofs.Common.{◌≡◌, length, Option}
use Rattle.json.specs.Json.{Json, Members}
use Rattle.json.specs.Find.{BeginsWith, InMembers, Finds, later_or, get_member, get}
use Rattle.quorum_expr.proofs.on_tape.find.Given as goal

abbrev pub invariant-loop-name : goal.invariant-loop-name
invariant-loop-name l =
    (j : Json) → BeginsWith l.element j → (rest : Members) × (earlier : Option Json) × InMembers l.members rest × Finds l.found earlier × (get l.key j ≡ later_or (get_member l.key rest) earlier)

abbrev pub decreases-loop-name : goal.decreases-loop-name
decreases-loop-name l = length l.members
