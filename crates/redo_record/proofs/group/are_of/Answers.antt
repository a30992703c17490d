use Rattle.std.proofs.Common.{rules, tests, ◌≡◌, ◌==◌, ◌&&◌, ℕ, List, [], ◌∷◌, map, refl, ap, ◌∙◌}
use Rattle.std.specs.List.{list_all}
use Rattle.std.proofs.lemmas.Iterator.{YieldsList-from_slice}
use Rattle.std.proofs.lemmas.Iterator.Search.{all_from_yields_List}
use Rattle.volume_model.specs.Common.{every}
use Rattle.redo_record.specs.declared.shared_record.SharedRecord.{SharedRecord}
use Rattle.redo_record.specs.SharedRecord.{shared_redo}
use Rattle.redo_record.proofs.group.are_of.Goals as goal

-- each packet's record is one of the group
every-packet : (group : ℕ) (packets : List SharedRecord) → list_all (λ p. (shared_redo p).group == group) packets ≡ every (λ r. r.group == group) (map shared_redo packets)
every-packet group [] = refl
every-packet group (p ∷ ps) = ap (λ b. (shared_redo p).group == group && b) (every-packet group ps)

pub returns : goal.returns
returns c =
    all_from_yields_List (λ (p : SharedRecord). (shared_redo p).group == c.args.group) _ _ c.all.result c.all.ensures.ran (YieldsList-from_slice c.args.packets.now c.iter.ensures.rest) (λ x b q k. search (rules, tests))
    ∙ every-packet c.args.group c.args.packets.now
