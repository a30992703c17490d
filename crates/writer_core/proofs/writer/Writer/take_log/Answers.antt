use Rattle.std.proofs.Common.{◌≡◌, ◌∙◌, [], length, ap}
use Rattle.volume_model.specs.Common.{group_point_of}
use Rattle.writer_core.specs.Groups.{groups_in}
use Rattle.writer_core.specs.Log.{packets_in}
use Rattle.writer_core.proofs.Covering.{covers-none}
use Rattle.writer_core.proofs.Joined.{no-packets}
use Rattle.writer_core.proofs.writer.Writer.take_log.Goals as goal

-- the log that is left has no record
none_left : (c : goal.After-replace) → packets_in c.replace.new.dest ≡ []
none_left c = ap packets_in c.replace.ensures.after ∙ c.begin.ensures.packets ∙ no-packets c.new-2.result c.new-2.ensures

pub invariant_of-self-clause-covers : goal.invariant_of-self-clause-covers
invariant_of-self-clause-covers c = covers-none c.none-self.result (group_point_of (groups_in c.args.self.now.group_states)) (packets_in c.replace.new.dest) c.none-self.ensures (none_left c)

pub invariant_of-self-clause-lasts : goal.invariant_of-self-clause-lasts
invariant_of-self-clause-lasts c = c.new.ensures (packets_in c.replace.new.dest) (ap length (none_left c))
