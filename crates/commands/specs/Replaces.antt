-- The answer of a replacement of a member.
use Rattle.std.specs.Prelude.{◌≡◌, ℕ, List, Ok, Err, unwrap_or}
use Rattle.plan.specs.Common.{PlanData, plan_of}
use Rattle.plan.specs.declared.fault.PlanFault.{PlanFault}
use Rattle.plan_edit.specs.Edited.{IsReplaced}
use Rattle.plan_edit.specs.declared.replacement.Replacement.{Replacement}
use Rattle.commands.specs.Answer.{Answer, fault_answer, printed}
use Rattle.commands.specs.declared.action.ReplaceOptions.{ReplaceOptions}

-- the replacement that the options ask for; it leaves configuration 0 if they name none
abbrev pub replacement_of : ReplaceOptions → Replacement
replacement_of o = record {
  group = o.group;
  configuration = unwrap_or o.configuration 0;
  old = o.old;
  new = o.new;
  is_tail = o.is_tail;
  is_direct = o.is_direct;
}

-- The answer to a plan's text: the text's fault; or the line of a plan of that replacement; or, to the text of a plan,
-- the fault of the plan that would be printed, or a line that says why none is.
pub data ReplacesTo (options : ReplaceOptions) (text : List ℕ) (answer : Answer) : Type 0 where
  faulty : (fault : PlanFault) → plan_of text ≡ Err fault → answer ≡ fault_answer fault
      → ReplacesTo options text answer
  replaced : (line : List ℕ) → IsReplaced (replacement_of options) text line → answer ≡ printed 0 line
      → ReplacesTo options text answer
  uncertified : (plan : PlanData) → plan_of text ≡ Ok plan → (fault : PlanFault) → answer ≡ fault_answer fault
      → ReplacesTo options text answer
  refused : (plan : PlanData) → plan_of text ≡ Ok plan → (line : List ℕ) → answer ≡ printed 1 line
      → ReplacesTo options text answer

-- the line of a plan of that replacement, or one that says why there is none
pub data IsEdit (replacement : Replacement) (text : List ℕ) (answer : Answer) : Type 0 where
  edited : (line : List ℕ) → IsReplaced replacement text line → answer ≡ printed 0 line → IsEdit replacement text answer
  unedited : (line : List ℕ) → answer ≡ printed 1 line → IsEdit replacement text answer
