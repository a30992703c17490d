use Rattle.std.proofs.Common.{length}
use Rattle.cert_search.specs.Dealing.{IsFilledTo}
use Rattle.cert_search.proofs.table.deal_out.Given as goal

abbrev pub invariant-loop-claim : goal.invariant-loop-claim
invariant-loop-claim l = IsFilledTo (length l.initial.owns.items) l.claim l.owns.items
