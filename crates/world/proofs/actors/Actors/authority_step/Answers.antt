use Rattle.std.proofs.Common.{sym, ◌∙◌, subst}
use Rattle.volume_model.specs.Common.{Plan}
use Rattle.world.specs.Homes.{AreHomes}
use Rattle.world.specs.Clients.{AreClients}
use Rattle.world.proofs.Steps.{LowFor, authority_steps}
use Rattle.world.proofs.actors.Actors.authority_step.Goals as goal
use Rattle.std.proofs.lemmas.Grind.{common_steps}
use Rattle.std.proofs.Common.{arith}

pub returns-clause-good : goal.returns-clause-good
returns-clause-good c =
    let self = c.args.self.now in
    record {
      plan = c.requires.plan ∙ sym c.act.ensures.plan;
      homes = subst (λ (p : Plan). AreHomes p self.nodes.items) (sym c.act.ensures.plan) c.requires.homes;
      low = subst LowFor (sym c.act.ensures.plan) c.requires.low;
      clients = subst (λ (p : Plan). AreClients p self.clients.items) (sym c.act.ensures.plan) c.requires.clients;
    }

pub returns-clause-steps : goal.returns-clause-steps
returns-clause-steps c = grind (arith, common_steps, c.act.ensures.plan, c.act.ensures.moves, authority_steps)
