use Rattle.std.proofs.Common.{◌≡◌, ◌++◌, drop, map}
use Rattle.cert_search.specs.Answers.{rule_in}
use Rattle.cert_search.specs.Lengths.{length_in}
use Rattle.cert_search.proofs.fitting.lengths_of.Given as goal

-- the lengths so far, with those of the certificates that are left
abbrev pub invariant-loop-certificate : goal.invariant-loop-certificate
invariant-loop-certificate l = l.lengths.items ++ map length_in (map rule_in (drop l.certificate-index l.certificates)) ≡ map length_in (map rule_in l.certificates)
