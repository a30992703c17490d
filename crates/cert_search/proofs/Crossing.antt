-- Which types may cross threads.
use denote.Ref.{NamedLft}
use denote.Param.Send.{IsSync, sendable}
use Rattle.std.proofs.Crossing.{crosses}
use Rattle.quorum_expr.proofs.expression.Expr.TheLaws.TheKnot as expr
use Rattle.refutation.proofs.Refutation.TheLaws.TheKnot as cert
use Rattle.plan.specs.contracts.configurations.Configuration as Configuration
use Rattle.plan.specs.contracts.lent.ClaimRef as ClaimRef

configuration_sync : IsSync Configuration.the_row
configuration_sync = search (sendable, crosses, expr.crosses, cert.crosses) depth 60 fits 20000

pub lent_sync : (a : NamedLft) → IsSync (ClaimRef.the_row a)
lent_sync a = search (sendable, crosses, configuration_sync) depth 60 fits 20000
