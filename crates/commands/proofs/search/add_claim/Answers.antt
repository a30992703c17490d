use Rattle.std.proofs.Common.{◌∙◌, append_assoc}
use Rattle.std.proofs.lemmas.Result.{on_ok_weaker}
use Rattle.commands.proofs.search.add_claim.Goals as goal

pub returns : goal.returns
returns c = on_ok_weaker c.write.result (λ h. h ∙ rw (c.claim_name-name.ensures, c.is_some.ensures) (simp append_assoc)) c.write.ensures.bytes
