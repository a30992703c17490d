use Rattle.std.proofs.Common.{is_some, sym, ap, ◌∙◌, arith}
use Rattle.serde_json.specs.Read.{number_of}
use Rattle.serde_json.proofs.Numbers.{number_of-decimal}
use Rattle.quorum_expr.proofs.number.is_in_range.Goals as goal

pub returns-in-Some : goal.returns-in-Some
returns-in-Some c = sym (ap is_some (ap number_of c.in-Some.ensures.is ∙ number_of-decimal _ (omega (arith, c.in-Some.ensures.small))))
