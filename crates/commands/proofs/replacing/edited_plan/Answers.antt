use Rattle.std.proofs.lemmas.Result.{IfOk-weaker}
use Rattle.commands.specs.Replaces.IsEdit.{edited, unedited}
use Rattle.commands.proofs.replacing.edited_plan.Goals as goal

pub returns-then-has_choice-clause-edit : goal.returns-then-has_choice-clause-edit
returns-then-has_choice-clause-edit g c = unedited c.into_bytes.result.items c.printed.ensures

pub returns-in-Ok-clause-edit : goal.returns-in-Ok-clause-edit
returns-in-Ok-clause-edit g c = rw (← c.replacement_of-replacement.ensures) (edited c.in-Ok.line.items c.in-Ok.ensures c.printed-in-Ok.ensures)

pub returns-in-Err-clause-edit : goal.returns-in-Err-clause-edit
returns-in-Err-clause-edit g c = IfOk-weaker c.refused.result _ _ (λ reply h. unedited h.0 h.1) c.refused.ensures.line
