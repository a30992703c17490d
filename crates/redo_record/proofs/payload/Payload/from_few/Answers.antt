use Rattle.std.proofs.Common.{◌∙◌, List, ℕ, ap, arith, slice_index, take}
use Rattle.std.proofs.lemmas.List.{take-append-le}
use Rattle.redo_record.proofs.Bytewise.{padded-behind}
use Rattle.redo_record.proofs.payload.Payload.from_few.Goals as goal
use Rattle.std.proofs.Common.{rules}

pub invariant_of-result : goal.invariant_of-result
invariant_of-result c = search (rules, c.requires.not_empty, c.requires.few, c.copy_from_slice.ensures.len, c.copy_from_slice.ensures.after, c.requires.cleared, padded-behind, slice_index)

pub returns : goal.returns
returns c = take-append-le c.args.length c.copy_from_slice.new.self _ (omega (arith, c.requires.few, c.copy_from_slice.ensures.len)) ∙ ap (λ (xs : List ℕ). take c.args.length xs) c.copy_from_slice.ensures.after
