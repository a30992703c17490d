use Rattle.cert_search.proofs.Claims.{begins}
use Rattle.cert_search.proofs.own.Own.new.Goals as goal

pub fifo_as-requires : goal.fifo_as-requires
fifo_as-requires c = begins
