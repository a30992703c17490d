use Rattle.volume_model.proofs.Own.{reaction_own, hydrated_own, offered_own, assigned_own, advanced_own, refreshed_own, grown_own, issued_own_born, taken_own_born, taken_own, cut_own_born, opened_own_born, resent_own_born, page_asked_own_born}
use Rattle.volume_model.proofs.actors.refusals_are_own.Goals as goal
use Rattle.std.proofs.lemmas.Grind.{common_steps}
use Rattle.std.proofs.Common.{arith}

pub returns : goal.returns
returns c = grind (arith, common_steps, reaction_own, hydrated_own, offered_own, assigned_own, advanced_own, refreshed_own, grown_own, issued_own_born, taken_own_born, taken_own, cut_own_born, opened_own_born, resent_own_born, page_asked_own_born)
