use Rattle.cert_search.proofs.Claims.{closes}
use Rattle.cert_search.proofs.own.Own.close.Goals as goal

pub push_as-requires-clause-pushes : goal.push_as-requires-clause-pushes
push_as-requires-clause-pushes c = closes _ _
