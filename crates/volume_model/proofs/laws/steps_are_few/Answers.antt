use Rattle.volume_model.proofs.Few.{few_asked, few_cut, few_found, few_issued, few_resent, few_taken}
use Rattle.volume_model.proofs.laws.steps_are_few.Goals as goal

pub returns : goal.returns
returns c = record { issue = few_issued; take = few_taken; cut = few_cut; found = few_found; resend = few_resent; read = few_asked }
