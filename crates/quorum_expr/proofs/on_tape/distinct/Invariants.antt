use Rattle.std.proofs.Common.{◌≡◌, ◌≤◌, Some, length, take}
use Rattle.json.specs.Json as json
use Rattle.json.specs.Find.{InMembers}
use Rattle.serde_json.specs.Data.{Members, no_members}
use Rattle.serde_json.specs.Read.{of_members}
use Rattle.quorum_expr.proofs.Keys.{Counts}
use Rattle.quorum_expr.proofs.on_tape.distinct.Given as goal

-- the keys so far
abbrev pub invariant-keys : goal.invariant-keys
invariant-keys l = record {
  counts : (ms : json.Members) (es : Members) → InMembers l.initial.members ms → of_members ms no_members ≡ Some es → Counts es l.members (take l.count l.seen) l.count;
  few : l.count ≤ l.most;
  long : length l.seen ≡ 8;
}

abbrev pub decreases-keys : goal.decreases-keys
decreases-keys l = length l.members
