use Rattle.std.proofs.Common.{sym, ap, ◌∙◌}
use Rattle.volume_model.specs.Common.{Redo}
use Rattle.writer_core.specs.Log.{log_in}
use Rattle.writer_core.proofs.Finding.{is_point_at, is_consistency_point-record_at}
use Rattle.writer_core.proofs.log.Log.is_point.Goals as goal

pub returns-in-Some : goal.returns-in-Some
returns-in-Some c = ap (λ (r : Redo). r.point) c.«record».ensures ∙ ap is_point_at c.in-Some.ensures ∙ sym (is_consistency_point-record_at (log_in c.args.self.now) c.args.lsn c.args.self.now.growing)

pub returns-in-None : goal.returns-in-None
returns-in-None c = ap is_point_at c.in-None.ensures ∙ sym (is_consistency_point-record_at (log_in c.args.self.now) c.args.lsn c.args.self.now.growing)
