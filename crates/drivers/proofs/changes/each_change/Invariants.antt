use Rattle.std.proofs.Common.{◌≡◌, ◌++◌, length, option_map}
use Rattle.writer_core.specs.Changes.{changes_of}
use Rattle.drivers.specs.Grammar.{changes_in}
use Rattle.drivers.specs.Parts.{parts_left}
use Rattle.drivers.proofs.changes.each_change.Given as goal

abbrev pub invariant-loop-word : goal.invariant-loop-word
invariant-loop-word l = changes_in (parts_left l.fn.words) ≡ option_map (λ more. changes_of l.changes.items ++ more) (changes_in (parts_left l.words))

abbrev pub decreases-loop-word : goal.decreases-loop-word
decreases-loop-word l = length (parts_left l.words)
