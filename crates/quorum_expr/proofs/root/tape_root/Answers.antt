use Rattle.std.proofs.Common.{sym, ◌∙◌}
use Rattle.quorum_expr.proofs.Passing.{read-refused}
use Rattle.quorum_expr.proofs.root.tape_root.Goals as goal

pub readable_root-requires : goal.readable_root-requires
readable_root-requires c = sym c.is_readable.ensures ∙ c.if-not-is_readable.false

pub returns-then-not-is_readable : goal.returns-then-not-is_readable
returns-then-not-is_readable c = λ text is whole. read-refused text c.args.tape.now is whole (sym c.is_readable.ensures ∙ c.if-not-is_readable.true)
