use Rattle.std.proofs.Common.{◌∙◌, sym, ap}
use Rattle.redo_record.specs.Packet.{packet_redo}
use Rattle.redo_record.specs.Spelling.{decoded}
use Rattle.redo_record.proofs.Checked.{spelling-of_ok}
use Rattle.redo_record.proofs.packet.Packet.as_bytes.Goals as goal

pub returns-clause-spelled : goal.returns-clause-spelled
unfolding packet_redo
returns-clause-spelled c = c.as_slice.ensures ∙ sym c.args.self.now.canonical

pub returns-clause-decoded : goal.returns-clause-decoded
unfolding packet_redo
returns-clause-decoded c = ap decoded c.as_slice.ensures ∙ (spelling-of_ok _ c.args.self.now.allowed).redo
