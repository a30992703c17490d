-- A node that the plan doesn't name refuses each event.
use Rattle.std.proofs.Common.{◌≡◌, ℕ, Bool, true, false, not, ◌&&◌, nat_lt, refl, ap, ◌∙◌}
use Rattle.volume_model.specs.declared.fault.Fault.TheVariants.{NoActor}
use Rattle.volume_model.specs.Common.{NodeAnswer, Plan, is_named, refuse_if, refusal, World, Event, groups_joined, if_there, of_node, step, Deliver, Hydrate, Restart, Offer}
use Rattle.node_fleet.specs.Calls.{IsOfNone}

and-false : (b : Bool) → (b && false) ≡ false
and-false true = refl
and-false false = refl

-- where the node isn't there, whatever it would do
not_there : (plan : Plan) (w : World) (joined g m : ℕ) (rest : NodeAnswer) → is_named plan g m ≡ false → refusal (of_node w g m (if_there plan joined g m rest)) ≡ 82
not_there plan w joined g m rest none =
    let here : (nat_lt g joined && is_named plan g m) ≡ false = ap (λ (b : Bool). nat_lt g joined && b) none ∙ and-false (nat_lt g joined) in
    ap (λ (b : Bool). refusal (of_node w g m (refuse_if (not b) NoActor rest))) here

pub unnamed_refuses : (plan : Plan) (w : World) (event : Event) → IsOfNone plan event → refusal (step plan w event) ≡ 82
unnamed_refuses plan w (Deliver g m number) none = not_there plan w (groups_joined w.authority) g m _ none
unnamed_refuses plan w (Hydrate g m) none = not_there plan w (groups_joined w.authority) g m _ none
unnamed_refuses plan w (Restart g m) none = not_there plan w (groups_joined w.authority) g m _ none
unnamed_refuses plan w (Offer g m lsn) none = not_there plan w (groups_joined w.authority) g m _ none
unnamed_refuses plan w event none = absurd none
