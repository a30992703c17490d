use Rattle.std.proofs.Common.{◌<◌, length, arith, rules, lt-ltb}
use Rattle.epochs.specs.Authority.{authority_of}
use Rattle.volume_model.specs.Common.{never_after_growth, numbered, deliver, groups_joined}
use Rattle.world.specs.Actors.{messages_in}
use Rattle.world.proofs.NodeSlot.{homes_after, nobody_steps, steps_after}
use Rattle.world.proofs.actors.Actors.deliver.Goals as goal

pub returns-in-Some-index_mut : goal.returns-in-Some-index_mut
returns-in-Some-index_mut c =
    let self = c.args.self.now in
    let found = c.in-Some.ensures in
    let within : c.in-Some.slot < length self.nodes.items = search rules in
    let joined = lt-ltb c.args.group (groups_joined (authority_of self.authority)) (omega (arith, c.if-group-joined.false, c.joined.ensures)) in
    record {
      good = search (rules, c.requires.plan, c.requires, c.index_mut.ensures.value, c.in-Some-index_mut.is, c.deliver.ensures.actor, c.requires.low, c.requires.clients, homes_after);
      steps = steps_after self c.requires c.args.group c.args.member c.in-Some.slot found.0 within found.2 c.index_mut.result.now c.index_mut.ensures.value c.in-Some-index_mut.segment c.deliver.new.segment c.in-Some-index_mut.is c.deliver.ensures.actor joined never_after_growth (λ plan group member now. deliver plan group member now (numbered (messages_in self) c.args.message)) c.deliver.result _ c.deliver.ensures.moves;
      plan = search rules;
    }

pub returns-in-None-clause-steps : goal.returns-in-None-clause-steps
returns-in-None-clause-steps c =
    let self = c.args.self.now in
    let found = c.in-Some.ensures in
    let within : c.in-Some.slot < length self.nodes.items = search rules in
    nobody_steps self c.requires c.args.group c.args.member c.in-Some.slot found.0 within found.2 c.index_mut.result.now c.index_mut.ensures.value never_after_growth (λ plan group member now. deliver plan group member now (numbered (messages_in self) c.args.message)) c.in-None.is
