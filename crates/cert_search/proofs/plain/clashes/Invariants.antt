use Rattle.std.proofs.Common.{◌≡◌, ◌++◌, drop}
use Rattle.refutation.specs.Common.{rules_of}
use Rattle.cert_search.specs.Plain.{clashes}
use Rattle.cert_search.proofs.plain.clashes.Given as goal

abbrev pub invariant-loop : goal.invariant-loop
invariant-loop g l = rules_of l.then.items ++ clashes (drop l.index l.pairs) ≡ clashes l.pairs
