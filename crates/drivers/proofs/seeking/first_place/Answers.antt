use Rattle.drivers.proofs.Places.{place_found}
use Rattle.drivers.proofs.seeking.first_place.Goals as goal

pub returns : goal.returns
returns c = place_found c.args.byte c.args.text.now c.memchr.result c.memchr.ensures
