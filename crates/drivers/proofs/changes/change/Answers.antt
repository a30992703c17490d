use Rattle.std.proofs.Common.{Some, ap, eqb, subst, sym, ℕ, ◌≡◌, ◌∙◌}
use Rattle.std.specs.List.{slice_split}
use Rattle.redo_record.specs.Common.{payload_bytes}
use Rattle.writer_core.specs.Changes.{change_of}
use Rattle.drivers.specs.Grammar.{change_by, most_offsets}
use Rattle.drivers.specs.Parts.{first_number, parts_left}
use Rattle.drivers.specs.Words.{bytes_in, fields_in}
use Rattle.drivers.proofs.Turns.{change_is, handed, no_change}
use Rattle.drivers.proofs.changes.change.Goals as goal

pub returns-in_err-bytes : goal.returns-in_err-bytes
returns-in_err-bytes c =
    let fields = parts_left c.new-fields.result in
    let left = c.take_offset.new.self in
    let bytes = c.in-Some.bytes.now in
    let colon : left.separator ≡ 58 = c.in_ok-offset.ensures.between ∙ (c.in_ok-block.ensures.between ∙ (c.in_ok-group.ensures.between ∙ c.new-fields.ensures.between)) in
    let last : fields_in bytes ≡ parts_left left = subst (λ (s : ℕ). slice_split (λ b. eqb b s) bytes ≡ parts_left left) colon c.in-Some.ensures in
    let offset : first_number most_offsets (parts_left c.take_block.new.self) ≡ Some (c.in_ok-offset.offset, fields_in bytes) = c.in_ok-offset.ensures.number ∙ ap (λ ps. Some (c.in_ok-offset.offset, ps)) (sym last) in
    let none = no_change c.in_ok-group.group c.in_ok-block.block c.in_ok-offset.offset bytes fields (parts_left c.take_id.new.self) (parts_left c.take_block.new.self)
    c.in_ok-group.ensures.number c.in_ok-block.ensures.number offset in
    handed payload_bytes (bytes_in bytes) change_of (change_by (fields_in c.args.word.now)) c.in_err-bytes.field-0.0 c.from_residual-in_err-bytes.result
    (λ spelled. rw c.new-fields.ensures.parts at none spelled) c.in_err-bytes.ensures c.from_residual-in_err-bytes.ensures.1

pub returns : goal.returns
returns c =
    let fields = parts_left c.new-fields.result in
    let left = c.take_offset.new.self in
    let bytes = c.in-Some.bytes.now in
    let colon : left.separator ≡ 58 = c.in_ok-offset.ensures.between ∙ (c.in_ok-block.ensures.between ∙ (c.in_ok-group.ensures.between ∙ c.new-fields.ensures.between)) in
    let last : fields_in bytes ≡ parts_left left = subst (λ (s : ℕ). slice_split (λ b. eqb b s) bytes ≡ parts_left left) colon c.in-Some.ensures in
    let offset : first_number most_offsets (parts_left c.take_block.new.self) ≡ Some (c.in_ok-offset.offset, fields_in bytes) = c.in_ok-offset.ensures.number ∙ ap (λ ps. Some (c.in_ok-offset.offset, ps)) (sym last) in
    let is = change_is c.in_ok-group.group c.in_ok-block.block c.in_ok-offset.offset bytes fields (parts_left c.take_id.new.self) (parts_left c.take_block.new.self)
    c.in_ok-group.ensures.number c.in_ok-block.ensures.number offset c.as_slice.result.now (c.in_ok-bytes.ensures ∙ ap Some (sym c.as_slice.ensures.value)) in
    rw c.new-fields.ensures.parts at (is ∙ ap Some (sym c.in_ok-new.ensures))
