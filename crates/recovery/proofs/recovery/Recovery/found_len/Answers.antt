use Rattle.std.proofs.Common.{◌∙◌}
use Rattle.writer_core.specs.Groups.{groups_in}
use Rattle.recovery.proofs.Bounds.{found-none, found-some}
use Rattle.recovery.proofs.recovery.Recovery.found_len.Goals as goal

pub returns-in-Some : goal.returns-in-Some
returns-in-Some c =
    c.len.ensures ∙ found-some (groups_in c.args.self.now.group_states) c.args.self.now.found c.in-Some.found c.in-Some.is

pub returns-in-None : goal.returns-in-None
returns-in-None c = found-none (groups_in c.args.self.now.group_states) c.args.self.now.found c.in-None.is
