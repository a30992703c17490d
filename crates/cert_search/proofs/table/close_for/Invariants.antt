use Rattle.cert_search.specs.Dealing.{GetsMarks}
use Rattle.cert_search.proofs.table.close_for.Given as goal

abbrev pub invariant-loop : goal.invariant-loop
invariant-loop l = GetsMarks l.counter l.initial.own l.own
