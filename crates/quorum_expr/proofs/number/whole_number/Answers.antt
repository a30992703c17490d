use Rattle.std.proofs.Common.{sym, ap, ◌∙◌, arith, option_and_then}
use Rattle.serde_json.specs.Find.{as_u64}
use Rattle.serde_json.specs.Read.{number_of}
use Rattle.serde_json.proofs.Numbers.{number_of-decimal}
use Rattle.quorum_expr.proofs.number.whole_number.Goals as goal

pub returns-in-Some : goal.returns-in-Some
returns-in-Some c = sym (ap (option_and_then as_u64) (ap number_of c.in-Some.ensures.is ∙ number_of-decimal c.in-Some.n (omega arith)))
