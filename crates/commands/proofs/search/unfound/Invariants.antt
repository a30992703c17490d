use Rattle.std.proofs.Common.{◌≡◌, ◌++◌, drop, map, string_bytes}
use Rattle.plan.specs.Common.{all_lent}
use Rattle.commands.specs.Unfound.{unfound_lines}
use Rattle.cert_search.specs.Answers.{rule_in}
use Rattle.commands.proofs.search.unfound.Given as goal

abbrev pub invariant-loop-claim : goal.invariant-loop-claim
invariant-loop-claim l = unfound_lines (all_lent l.claims) (map rule_in l.certificates) ≡ string_bytes l.text ++ unfound_lines (all_lent (drop l.claim-index l.claims)) (map rule_in l.left)
