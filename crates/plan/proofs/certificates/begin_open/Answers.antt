use Rattle.std.proofs.Common.{codes}
use Rattle.plan.proofs.PutRules.{side_opens, with_key}
use Rattle.plan.proofs.Putting.{then_put}
use Rattle.plan.proofs.certificates.begin_open.Goals as goal
use Rattle.std.proofs.Common.{rules}

pub returns : goal.returns
returns c = search (rules, c.put_key.ensures, c.in_ok-open_object.ensures, c.from.ensures, c.in_ok-put_number_at.ensures, c.in_ok-put_text_at.ensures, c.in_ok-put_side.ensures, then_put, with_key, codes, side_opens)
