use Rattle.std.proofs.Common.{◌<◌, subst, sym, ◌∙◌, option_map}
use Rattle.hydration.proofs.Gathering.{none-pieces, place-at, place-inside}
use Rattle.hydration.proofs.hydration.Hydration.pieces_from.Goals as goal
use Rattle.std.proofs.lemmas.Grind.{common_steps}
use Rattle.std.proofs.Common.{arith}

pub returns-in_err-place : goal.returns-in_err-place
returns-in_err-place c = grind (arith, common_steps, c.from_residual.ensures, c.place.ensures, c.in_err-place.was, option_map, none-pieces)

pub index-requires : goal.index-requires
index-requires c = subst (λ n. c.in_ok-place.place < n) (sym c.args.self.now.copies.ok.0) (place-inside c.args.self.now.copies.items c.args.from c.in_ok-place.place (sym c.place.ensures ∙ c.in_ok-place.was))

pub returns : goal.returns
returns c = grind (arith, common_steps, c.place.ensures, c.in_ok-place.was, c.index.ensures, place-at)
