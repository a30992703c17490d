use Rattle.std.proofs.Common.{refl}
use Rattle.commands.specs.Begins.BeginsTo.{refused, unusable}
use Rattle.commands.proofs.beginning.refused.Goals as goal

pub returns-then-is_usage-clause-begins : goal.returns-then-is_usage-clause-begins
returns-then-is_usage-clause-begins c = unusable c.into_bytes-lines.result.items (rw c.new.ensures.items refl)

pub returns-clause-begins : goal.returns-clause-begins
returns-clause-begins c = refused c.into_bytes-lines.result.items c.printed.ensures
