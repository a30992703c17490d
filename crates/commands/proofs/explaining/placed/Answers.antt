use Rattle.std.proofs.Common.{inl, inr, refl, string_bytes}
use Rattle.commands.proofs.ExplainedPlans.{explains_placed}
use Rattle.commands.proofs.explaining.placed.Goals as goal

pub returns-in-Ok : goal.returns-in-Ok
returns-in-Ok c is = inl (explains_placed c.args.text.now (string_bytes c.in-Ok.lines) c.args.fault is)

pub returns-in-Err : goal.returns-in-Err
returns-in-Err c is = inr refl
