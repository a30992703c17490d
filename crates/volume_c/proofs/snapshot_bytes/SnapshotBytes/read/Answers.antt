use Rattle.volume_c.specs.SnapshotBytes.{bytes_left}
use Rattle.volume_c.proofs.Pieces.{both-moved, both-back}
use Rattle.volume_c.proofs.snapshot_bytes.SnapshotBytes.read.Goals as goal

pub returns-clause-moves : goal.returns-clause-moves
returns-clause-moves c =
    both-moved (bytes_left c.args.self.now) (bytes_left c.read_head-count.new.self) (bytes_left c.read_records.new.self) c.read_head-count.new.out c.split_at_mut-rest.result.0.now c.read_records.new.out
    c.read_head-count.result c.read_records.result c.read_head-count.ensures.moves c.read_records.ensures.moves c.split_at_mut-rest.ensures.front c.split_at_mut-rest.ensures.front_len

pub returns-clause-back : goal.returns-clause-back
returns-clause-back c =
    both-back c.args.out.now c.read_head-count.new.out c.split_at_mut-rest.result.0.now c.split_at_mut-rest.result.1.now c.read_records.new.out
    c.read_head-count.result c.read_records.result c.read_head-count.ensures.back c.split_at_mut-rest.ensures.back c.read_records.ensures.back c.split_at_mut-rest.ensures.front_len
