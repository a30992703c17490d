use Rattle.std.proofs.Common.{◌∙◌, append_assoc}
use Rattle.commands.proofs.run_text.counts_line.Goals as goal

pub returns : goal.returns
returns c = let empty = c.new-text.ensures.bytes in c.in_ok-write.ensures.bytes ∙ rw empty (simp append_assoc)
