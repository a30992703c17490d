use Rattle.std.proofs.Common.{codes, inl, inr, refl}
use Rattle.commands.specs.Begins.{BeginsTo}
use Rattle.commands.specs.Begins.BeginsTo.{begun, unusable}
use Rattle.commands.proofs.Due.{reply_says}
use Rattle.commands.proofs.beginning.begun.Goals as goal

pub returns-in-Ok : goal.returns-in-Ok
returns-in-Ok g c = begun c.in-Ok.line.items c.in-Ok.ensures c.printed.ensures

pub returns-in-Err : goal.returns-in-Err
returns-in-Err g c = unusable (codes "input: 9 NoMemory\n") refl

pub returns-in-Err-2 : goal.returns-in-Err-2
returns-in-Err-2 g c = elim (reply_says (BeginsTo c.args.request.now) c.refused.result c.refused.ensures.begins c.refused.ensures.stop) [
  | inl due ↦ due
  | inr out ↦ unusable (codes "input: 9 NoMemory\n") out
]
