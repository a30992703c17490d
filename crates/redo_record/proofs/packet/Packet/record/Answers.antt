use Rattle.std.proofs.Common.{◌∙◌, ◌≤◌, List, ℕ, length, subst, sym, ap}
use Rattle.redo_record.specs.declared.head.Head.{Head}
use Rattle.redo_record.specs.Packet.{packet_redo}
use Rattle.redo_record.proofs.Checked.{IsSpelling, spelling-of_ok}
use Rattle.redo_record.proofs.packet.Packet.«record».Goals as goal
use Rattle.std.proofs.lemmas.Grind.{common_steps}
use Rattle.std.proofs.Common.{arith}
use Rattle.std.proofs.Common.{rules}

pub split_at-requires : goal.split_at-requires
split_at-requires c = subst (λ (b : List ℕ). 45 ≤ length b) (sym c.as_slice-bytes.ensures) (spelling-of_ok _ c.args.self.now.allowed).long

pub record_from-requires-clause-allowed : goal.record_from-requires-clause-allowed
record_from-requires-clause-allowed c = search (rules, c.as_slice-bytes.ensures, c.head_of.ensures, IsSpelling, spelling-of_ok)

pub record_from-requires-clause-whole : goal.record_from-requires-clause-whole
record_from-requires-clause-whole c =
    let is : IsSpelling c.as_slice-bytes.result.now = subst IsSpelling (sym c.as_slice-bytes.ensures) (spelling-of_ok _ c.args.self.now.allowed) in
    ap length c.split_at.ensures.back ∙ is.whole ∙ ap (λ (h : Head). h.length) (sym c.head_of.ensures)

pub returns : goal.returns
unfolding packet_redo
returns c = grind (arith, common_steps)
