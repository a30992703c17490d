use Rattle.std.proofs.Common.{Some, min, option_map}
use Rattle.serde_json.proofs.Views.{members_len-members_view}
use Rattle.quorum_expr.proofs.on_value.RefValueNode.keys.Goals as goal
use Rattle.std.proofs.lemmas.Grind.{common_steps}
use Rattle.std.proofs.Common.{arith}

pub returns-in-Some : goal.returns-in-Some
returns-in-Some c = grind (arith, common_steps, c.min.ensures, c.len.ensures.len, c.in-Some.ensures, Some, min, members_len-members_view, option_map)
