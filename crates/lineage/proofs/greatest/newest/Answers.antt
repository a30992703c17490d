use Rattle.std.proofs.Common.{◌≡◌, ◌∙◌, ◌<◌, ℕ, List, get_or, length, sym, ap, arith}
use Rattle.std.proofs.lemmas.List.{get_or-map}
use Rattle.volume_model.specs.Common.{last_epoch}
use Rattle.lineage.specs.declared.lineage.Lineage.{Lineage}
use Rattle.lineage.specs.Lineage.{lineage_of}
use Rattle.lineage.specs.Newest.{last_epochs}
use Rattle.lineage.proofs.greatest.newest.Goals as goal
use Rattle.lineage.proofs.greatest.newest.Goals.{then-last_epoch, else-last_epoch}
use Rattle.std.proofs.lemmas.Grind.{common_steps}

-- the epoch that is read is the one in the list
read : (lineages : List Lineage) (k : ℕ) (lineage : Lineage) (epoch : ℕ) → k < length lineages → lineage ≡ get_or lineages k lineage → epoch ≡ last_epoch (lineage_of lineage) → epoch ≡ get_or (last_epochs lineages) k 0
read lineages k lineage epoch within at is = is ∙ ap (λ l. last_epoch (lineage_of l)) at ∙ sym (get_or-map (λ l. last_epoch (lineage_of l)) lineages k lineage 0 within)

pub loop-place-preserved : goal.loop-place-preserved
loop-place-preserved c =
    let lineages : List Lineage = c.args.lineages.now in
    let here : c.loop-place.place < length lineages = omega arith in
    grind (arith, common_steps, (read lineages c.loop-place.place c.index-lineages-place.result c.last_epoch-in-loop-place.result here c.index-lineages-place.is c.last_epoch-in-loop-place.ensures))
