use Rattle.std.proofs.Common.{◌≡◌, map, take}
use Rattle.writer_core.specs.Changes.{changes_of}
use Rattle.volume_c.specs.Changes.{given_change}
use Rattle.volume_c.proofs.changes.changes.Given as goal

abbrev pub invariant-loop-one : goal.invariant-loop-one
invariant-loop-one l = changes_of l.changes.items ≡ map given_change (take l.one-index l.given)
