use Rattle.std.proofs.Common.{◌≡◌, List, ℕ, Err, Ok, refl}
use Rattle.std.proofs.lemmas.Result.{IfOk-weaker}
use Rattle.plan.specs.Common.{plan_data, PlanData, plan_of}
use Rattle.commands.specs.Answer.{Answer}
use Rattle.commands.specs.Replaces.{IsEdit, ReplacesTo, replacement_of}
use Rattle.commands.specs.Replaces.IsEdit.{edited, unedited}
use Rattle.commands.specs.Replaces.ReplacesTo.{faulty, replaced, uncertified, refused}
use Rattle.commands.specs.declared.action.ReplaceOptions.{ReplaceOptions}
use Rattle.commands.proofs.Due.{plan_says, stop_says}
use Rattle.commands.proofs.replacing.edited_text.Goals as goal

edit_due : (options : ReplaceOptions) (text : List ℕ) (plan : PlanData) (a : Answer) → plan_of text ≡ Ok plan → IsEdit (replacement_of options) text a → ReplacesTo options text a
edit_due options text plan a spelled (edited line is said) = replaced line is said
edit_due options text plan a spelled (unedited line said) = refused plan spelled line said

pub returns-in-Ok : goal.returns-in-Ok
returns-in-Ok g c =
    let plan = plan_data c.in-Ok.plan in
    plan_says (λ fault. Unit {0}) (ReplacesTo c.args.options c.args.text.now) c.edited_plan.result (λ fault is. uncertified plan c.in-Ok.ensures.plan fault refl)
    (IfOk-weaker c.edited_plan.result _ _ (λ reply h. edit_due c.args.options c.args.text.now plan _ c.in-Ok.ensures.plan h) c.edited_plan.ensures.edit) c.edited_plan.ensures.stop

pub returns-in-Err : goal.returns-in-Err
returns-in-Err g c = stop_says (λ fault. plan_of c.args.text.now ≡ Err fault) (ReplacesTo c.args.options c.args.text.now) c.in-Err.stop (λ fault is. faulty fault is refl) c.in-Err.ensures.stop
