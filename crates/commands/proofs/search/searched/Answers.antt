use Rattle.std.proofs.Common.{◌≡◌, Err, IfErr, IfOk, subst}
use Rattle.commands.specs.Searched.{PrintsSearch, claims_of}
use Rattle.commands.specs.Stops.{StopsBy}
use Rattle.commands.proofs.search.searched.Goals as goal

pub returns-in-Ok-clause-reported : goal.returns-in-Ok-clause-reported
returns-in-Ok-clause-reported g c = subst (λ t. IfOk c.searched_tape.result (λ reply. PrintsSearch t reply.status reply.out.items reply.err.items)) c.in-Ok.ensures.text c.searched_tape.ensures.reported

pub returns-in-Ok-clause-stop : goal.returns-in-Ok-clause-stop
returns-in-Ok-clause-stop g c = subst (λ t. IfErr c.searched_tape.result (StopsBy (λ fault. claims_of t ≡ Err fault))) c.in-Ok.ensures.text c.searched_tape.ensures.stop
