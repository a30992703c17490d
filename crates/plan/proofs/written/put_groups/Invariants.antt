use Rattle.serde_json.specs.Events.{items_len}
use Rattle.quorum_expr.specs.Common.{items_in, items_at, or_none, data_of}
use Rattle.plan.specs.Rewriting.{groups_written}
use Rattle.plan.specs.Certificates.{certificate_values}
use Rattle.plan.proofs.Made.{Makes}
use Rattle.plan.proofs.written.put_groups.Given as goal

abbrev pub invariant-groups : goal.invariant-groups
invariant-groups l = Makes (groups_written (items_in (data_of l.list)) (certificate_values l.certificates)) (groups_written (or_none (items_at l.rest.items)) (certificate_values l.left)) l.fn.writer l.writer

abbrev pub decreases-groups : goal.decreases-groups
decreases-groups l = items_len (or_none (items_at l.rest.items))
