use Rattle.std.proofs.Common.{◌≡◌, ◌++◌, length, option_map}
use Rattle.writer_core.specs.Changes.{changes_of}
use Rattle.drivers.specs.Grammar.{changes_in}
use Rattle.drivers.specs.Words.{words_in}
use Rattle.drivers.proofs.plain.plain_changes.Given as goal

abbrev pub invariant-loop-group : goal.invariant-loop-group
invariant-loop-group l = record {
  before : changes_in (words_in l.text) ≡ option_map (λ more. changes_of l.changes.items ++ more) (changes_in (words_in l.rest));
  size : length l.bytes ≡ 64;
}

abbrev pub decreases-loop-group : goal.decreases-loop-group
decreases-loop-group l = length l.rest
