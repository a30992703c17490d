-- The definitions that other crates cite, passed on from one place. Declares nothing.
pub use Rattle.quorum_expr.specs.Expr.{formula_of, weighed}
pub use Rattle.quorum_expr.specs.Forms.{formulas_of}
unfoldable pub use Rattle.quorum_expr.specs.MemberSet.{all_members}
pub use Rattle.quorum_expr.specs.Reading.{ChildList, Form, Weights, at_key, child_count, children_at, choice, each, each_of, formula_from, found_or_malformed, good_row, members_at, named, set_of, single, weighing, whole_of}
unfoldable pub use Rattle.quorum_expr.specs.Reading.{expression_in, form_of, formula_at}
pub use Rattle.quorum_expr.specs.Valid.{expression_fault, nodes}
pub use Rattle.quorum_expr.specs.Nodes.{items_in, keys_up_to}
pub use Rattle.quorum_expr.specs.Placed.{or_none}
unfoldable pub use Rattle.quorum_expr.specs.Placed.{items_at, passes}
pub use Rattle.quorum_expr.specs.Tapes.{data_of}
