use Rattle.std.proofs.Common.{List, refl, ap, ◌∙◌}
use Rattle.volume_model.specs.Common.{world_at, numbered}
use Rattle.volume_model.specs.Journal.{Entry}
use Rattle.journal.specs.Entries.{entries_of}
use Rattle.journal.specs.Tokens.{shown}
use Rattle.node_fleet.proofs.client.ClientActor.act.Goals as goal

pub step-requires-2-clause-found : goal.step-requires-2-clause-found
step-requires-2-clause-found g c =
    let plan = g.L.Site.plan in
    (refl, ap (λ (l : List Entry). numbered (world_at plan l).messages c.in-Take.message) (ap (λ ts. entries_of (shown ts.items)) c.seek.ensures.log.0) ∙ c.in-Some.ensures.is ∙ c.message-found.ensures)
