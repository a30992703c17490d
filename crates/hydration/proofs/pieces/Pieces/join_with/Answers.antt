use Rattle.std.proofs.Common.{◌≡◌, ◌++◌, ◌∷◌, [], ap, subst, sym, ◌∙◌, IfOk}
use Rattle.volume_model.specs.Common.{united, contents_in}
use Rattle.redo_record.specs.Common.{records_of}
use Rattle.redo_record.specs.declared.record_set.RecordSet.{RecordSet}
use Rattle.hydration.specs.Kept.{sets_kept}
use Rattle.hydration.specs.Pieces.{seen_pieces}
use Rattle.hydration.specs.Changes.{changed}
use Rattle.hydration.specs.declared.change.Change.{Change}
use Rattle.hydration.proofs.Bringing.{joined-kept, sets-behind, behind-kept}
use Rattle.hydration.proofs.pieces.Pieces.join_with.Goals as goal

pub returns-in_ok-push-in-Append : goal.returns-in_ok-push-in-Append
returns-in_ok-push-in-Append c =
    let s = c.args.self.now in
    let kept = s.kept.items in
    let last = c.in-Append.last in
    let parts = c.in_ok-parts-in-Append.parts.items in
    let behind = sets-behind kept last parts c.push.new.self.items c.in_ok-clone-in-Append.field-0 c.in_ok-push-in-Append.ensures.items c.in_ok-clone-in-Append.ensures.cases (c.in_ok-parts-in-Append.ensures ∙ ap sets_kept c.deref.ensures.value) in
    subst (λ (change : Change). IfOk c.joined.result (λ (set : RecordSet). records_of set ≡ united (contents_in (changed change (seen_pieces s))))) (sym c.in-Append.is)
    (behind-kept kept last c.joined.result (joined-kept (kept ++ last ∷ []) c.push.new.self.items c.joined.result behind c.joined.ensures))
