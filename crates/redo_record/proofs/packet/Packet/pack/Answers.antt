use Rattle.std.proofs.Common.{◌∙◌, is_ok, ap}
use Rattle.redo_record.specs.Head.{redo_in}
use Rattle.redo_record.specs.Packet.{packet_redo}
use Rattle.redo_record.specs.Record.{redo_of}
use Rattle.redo_record.proofs.Again.{decoded-spelled, redo_in-spelled}
use Rattle.redo_record.proofs.packet.Packet.pack.Goals as goal
use Rattle.std.proofs.lemmas.Grind.{common_steps}
use Rattle.std.proofs.Common.{arith}

pub invariant_of-result : goal.invariant_of-result
invariant_of-result c = grind (arith, common_steps, c.spell.ensures.spelled, c.spell.ensures.spellable, redo_in-spelled, is_ok, decoded-spelled)

pub returns : goal.returns
unfolding packet_redo
returns c = ap redo_in c.spell.ensures.spelled ∙ redo_in-spelled (redo_of c.args.«record».now) c.spell.ensures.spellable
