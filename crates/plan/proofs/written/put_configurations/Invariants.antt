use Rattle.std.proofs.Common.{◌≤◌}
use Rattle.serde_json.specs.Events.{items_len}
use Rattle.quorum_expr.specs.Common.{items_in, items_at, or_none, data_of}
use Rattle.plan.specs.Rewriting.{configurations_written}
use Rattle.plan.specs.Certificates.{certificate_values}
use Rattle.plan.proofs.Made.{Makes}
use Rattle.plan.proofs.written.put_configurations.Given as goal

abbrev pub invariant-configurations : goal.invariant-configurations
invariant-configurations l = record {
  made : Makes (configurations_written 0 (items_in (data_of l.list)) (certificate_values l.certificates)) (configurations_written l.number (or_none (items_at l.rest.items)) (certificate_values l.certificates)) l.fn.writer l.writer;
  few : l.number ≤ 64;
}

abbrev pub decreases-configurations : goal.decreases-configurations
decreases-configurations l = items_len (or_none (items_at l.rest.items))
