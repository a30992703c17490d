use Rattle.std.proofs.Common.{◌≡◌, Ok, subst}
use Rattle.volume_model.specs.Node.{Node}
use Rattle.volume_c.specs.Saved.{segment_in, segment_spelled}
use Rattle.volume_c.proofs.snapshot_bytes.SnapshotBytes.of.Goals as goal

pub returns-clause-reads : goal.returns-clause-reads
returns-clause-reads c = subst (λ (n : Node). segment_in (segment_spelled n) ≡ Ok n) c.in_ok-snapshot.ensures.kept c.in_ok-head.ensures.reads
