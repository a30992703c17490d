use Rattle.std.proofs.Common.{◌≡◌}
use Rattle.commands.specs.Layout.{place_after, squeezed}
use Rattle.commands.specs.declared.layout.Place.TheVariants.{Outside}
use Rattle.commands.proofs.layout.push_break.Given as goal

-- only blanks were added
abbrev pub invariant-loop : goal.invariant-loop
invariant-loop l = (squeezed l.text.items ≡ squeezed l.fn.text.items) × (place_after Outside l.text.items ≡ Outside)
