use Rattle.cert_search.proofs.Places.{filled}
use Rattle.cert_search.proofs.filling.fill.Goals as goal

pub returns-then-found-len : goal.returns-then-found-len
returns-then-found-len c = λ budget claims is are. filled budget claims c.args.places.now.items c.args.found are is
