use Rattle.std.proofs.Common.{sym, ◌∙◌}
use Rattle.redo_record.specs.Common.{records_of, runs_of, index_of, shared_redo}
use Rattle.redo_record.proofs.Flat.{within-all}
use Rattle.segment_core.proofs.Lines.{before-some, before-none}
use Rattle.segment_core.proofs.line.lsn_before.Goals as goal

pub returns-in-Some : goal.returns-in-Some
returns-in-Some c = c.lsn.ensures ∙ sym (before-some 0 (records_of c.args.set.now) (index_of (runs_of c.args.set.now) c.args.place) (shared_redo c.in-Some.packet.now) c.in-Some.ensures)

pub returns-in-None : goal.returns-in-None
returns-in-None c = sym (before-none 0 (records_of c.args.set.now) (index_of (runs_of c.args.set.now) c.args.place) (within-all (runs_of c.args.set.now) c.args.place.run c.args.place.index c.requires.index_within) c.in-None.ensures)
