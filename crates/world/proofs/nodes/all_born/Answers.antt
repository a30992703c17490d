use Rattle.std.proofs.Common.{List, ◌≡◌, ℕ, ◌/◌, ◌%◌, ◌++◌, ◌∷◌, [], Option, length, length-append, sym, subst, arith}
use Rattle.std.specs.Arc.{arc_value}
use Rattle.volume_model.specs.Common.{Plan}
use Rattle.plan.specs.Common.{checked_model}
use Rattle.segment_core.specs.declared.segment.Segment.{Segment}
use Rattle.world.specs.Homes.{IsPlace}
use Rattle.world.proofs.OneNode.{IsNewborn, each-push, newborn}
use Rattle.world.proofs.nodes.all_born.Goals as goal

pub loop-k-preserved : goal.loop-k-preserved
loop-k-preserved c =
    let plan : Plan = checked_model (arc_value c.args.plan.now) in
    let slots : List (Option Segment) = c.loop-k.slots.items in
    let new : Option Segment = c.in_ok-born.field-0 in
    let items : c.push.new.self.items ≡ slots ++ new ∷ [] = c.in_ok-push.ensures.items in
    let long : length slots ≡ c.loop-k.k = c.loop-k.invariant.long in
    let place : IsPlace plan (length slots / 64) (length slots % 64) new = subst (λ (n : ℕ). IsPlace plan (n / 64) (n % 64) new) (sym long) c.in_ok-born.ensures.place in
    let node : IsNewborn plan (length slots / 64) (length slots % 64) new = subst (λ (n : ℕ). IsNewborn plan (n / 64) (n % 64) new) (sym long) c.in_ok-born.ensures.node in
    record {
      long = rw items (omega (arith, length-append slots (new ∷ []), long));
      place = rw items (each-push (λ k o. IsPlace plan (k / 64) (k % 64) o) slots new c.loop-k.invariant.place place);
      newborn = rw items (each-push (λ k o. IsNewborn plan (k / 64) (k % 64) o) slots new c.loop-k.invariant.newborn node);
    }

pub returns-clause-nodes : goal.returns-clause-nodes
returns-clause-nodes c = newborn (checked_model (arc_value c.args.plan.now)) c.loop-k.slots.items c.loop-k.invariant.newborn
