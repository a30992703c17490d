use Rattle.std.proofs.Common.{◌∙◌, List, ℕ, length, is_ok, sym, ap}
use Rattle.redo_record.specs.declared.head.Head.{Head}
use Rattle.redo_record.specs.Head.{is_allowed}
use Rattle.redo_record.proofs.Checked.{spelling-of_ok, spelling-again}
use Rattle.redo_record.proofs.decoding.decode.Goals as goal
use Rattle.std.proofs.Common.{rules}

pub split_at-requires : goal.split_at-requires
split_at-requires c = (spelling-of_ok c.args.bytes.now (ap is_ok c.in_ok-head.ensures.exact)).long

pub record_from-requires-clause-allowed : goal.record_from-requires-clause-allowed
record_from-requires-clause-allowed c = ap is_allowed c.in_ok-head.ensures.head ∙ (spelling-of_ok c.args.bytes.now (ap is_ok c.in_ok-head.ensures.exact)).allowed

pub record_from-requires-clause-whole : goal.record_from-requires-clause-whole
record_from-requires-clause-whole c = ap length c.split_at.ensures.back ∙ (spelling-of_ok c.args.bytes.now (ap is_ok c.in_ok-head.ensures.exact)).whole ∙ ap (λ (h : Head). h.length) (sym c.in_ok-head.ensures.head)

pub returns-clause-found : goal.returns-clause-found
returns-clause-found c =
    let b : List ℕ = c.args.bytes.now in
    search (rules, c.type_inv.bytes, c.in_ok-head.ensures.head, c.split_at.ensures.back, c.record_from.ensures, spelling-again, (spelling-of_ok b (ap is_ok c.in_ok-head.ensures.exact)))
