use Rattle.plan.proofs.Arrays.{none_listed, some_listed}
use Rattle.plan.proofs.reading.some_members.Goals as goal

pub returns-then-count_items-lt1 : goal.returns-then-count_items-lt1
returns-then-count_items-lt1 g c = none_listed (g.N.Node.means c.args.value.now) c.count_items.result c.count_items.ensures c.if-count_items-lt1.true

pub returns : goal.returns
returns g c = rw (some_listed (g.N.Node.means c.args.value.now) c.count_items.result c.count_items.ensures c.if-count_items-lt1.false) c.members_at.ensures
