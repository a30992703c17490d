use Rattle.std.proofs.Common.{◌≡◌, ◌*◌, ◌∷◌, ℕ, [], All, List, Option, length, sym, ap, ◌∙◌, subst, arith, rules, length-append}
use Rattle.std.proofs.lemmas.List.Elements.{All-push}
use Rattle.node_fleet.specs.declared.mailbox.Mailbox.{Mailbox}
use Rattle.node_fleet.specs.Mails.{IsNew}
use Rattle.plan.specs.Common.{checked_model, plan_data}
use Rattle.volume_model.specs.Common.{Plan}
use Rattle.world.proofs.Low.{is_low}
use Rattle.node_fleet.proofs.Homes.{AreHomes, IsHome, has_nodes, homes_push}
use Rattle.node_fleet.proofs.mailboxes.Mailboxes.new.Goals as goal

pub returns-clause-nodes : goal.returns-clause-nodes
returns-clause-nodes c =
    let plan : Plan = checked_model c.args.plan.now in
    let long : length c.loop-k.mailboxes.boxes.items ≡ plan.groups * 64 = sym c.loop-k.mailboxes.boxes.ok.0 ∙ search rules in
    has_nodes plan c.loop-k.mailboxes.boxes.items long (λ group member h. is_low (plan_data c.args.plan.now.plan) group member h) c.loop-k.invariant.homes

pub loop-k-preserved : goal.loop-k-preserved
loop-k-preserved c =
    let old : List (Option Mailbox) = c.loop-k.mailboxes.boxes.items in
    let plan : Plan = checked_model c.args.plan.now in
    let k : c.loop-k.k ≡ length old = sym c.loop-k.invariant.long ∙ c.loop-k.mailboxes.boxes.ok.0 in
    let home : IsHome plan (length old) c.in_ok-mailbox.mailbox = subst (λ (n : ℕ). IsHome plan n c.in_ok-mailbox.mailbox) k c.in_ok-mailbox.ensures.named in
    record {
      long = omega (arith, c.add.new.self.boxes.ok.0, ap length c.in_ok-seats-2.ensures.boxes, length-append old (c.in_ok-mailbox.mailbox ∷ []), c.loop-k.mailboxes.boxes.ok.0, c.loop-k.invariant.long);
      count = search rules;
      homes = subst (AreHomes plan) (sym c.in_ok-seats-2.ensures.boxes) (homes_push plan old c.in_ok-mailbox.mailbox c.loop-k.invariant.homes home);
      fresh = subst (All (IsNew c.args.callers)) (sym c.in_ok-seats-2.ensures.boxes) (All-push (IsNew c.args.callers) old c.in_ok-mailbox.mailbox c.loop-k.invariant.fresh c.in_ok-mailbox.ensures.fresh);
      seats = search rules;
    }
