use Rattle.cert_search.proofs.Kept.{KeptTo}
use Rattle.cert_search.proofs.fitting.keep_shortest.Given as goal

-- what was seen is kept or dropped
abbrev pub invariant-loop-at : goal.invariant-loop-at
invariant-loop-at l = KeptTo l.room l.lengths.items l.at l.initial.certificates.items l.certificates.items
