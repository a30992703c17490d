-- A step changes one actor.
use Rattle.std.proofs.Common.{◌≡◌, ℕ, ◌==◌, ◌&&◌, Bool, true, false, Result, Ok, Err, refl, sym, ap₂, ◌∙◌, true≢false, eq-eqb}
use Rattle.volume_model.specs.declared.fault.Fault.{Fault}
use Rattle.volume_model.specs.Common.{put, put_at, Plan, World, Event, after, after_step, Actor, Acted, Agree, actor_of, in_world, same_actor, TheAuthority}
use Rattle.volume_model.specs.Actor.Actor.{Client, Node}
use Rattle.volume_model.proofs.ActorSteps.{step_of_actor}
use Rattle.std.proofs.lemmas.Grind.{common_steps}
use Rattle.std.proofs.Common.{arith}

pub eqb-sym : (a b : ℕ) → (a == b) ≡ (b == a)
eqb-sym a b = grind (arith, common_steps)

module _ {A : Type 0} where
  pub put_else : (f : ℕ → A) (x : ℕ) (value : A) (y : ℕ) → (x == y) ≡ false → put f x value y ≡ f y
  put_else f x value y h = let e : (y == x) ≡ false = eqb-sym y x ∙ h in rw e refl

  pub put_here : (f : ℕ → A) (x : ℕ) (value : A) → put f x value x ≡ value
  put_here f x value = let e : (x == x) ≡ true = eq-eqb x x refl in rw e refl

  pub put_at_else : (f : ℕ → ℕ → A) (g x : ℕ) (value : A) (h y : ℕ) → (g == h && x == y) ≡ false → put_at f g x value h y ≡ f h y
  put_at_else f g x value h y apart = let e : (h == g && y == x) ≡ false = ap₂ (λ (a b : Bool). a && b) (eqb-sym h g) (eqb-sym y x) ∙ apart in rw e refl

  pub put_at_here : (f : ℕ → ℕ → A) (g x : ℕ) (value : A) → put_at f g x value g x ≡ value
  put_at_here f g x value = let e : (g == g && x == x) ≡ true = ap₂ (λ (a b : Bool). a && b) (eq-eqb g g refl) (eq-eqb x x refl) in rw e refl

pub agree-refl : (actor : Actor) (w : World) → Agree actor w w
agree-refl TheAuthority w = refl
agree-refl (Client c) w = refl
agree-refl (Node g m) w = refl

in_world-else : (w : World) (mine : Actor) (r : Result (Acted mine) Fault) (actor : Actor) → same_actor mine actor ≡ false → Agree actor w (after_step w (in_world w mine r))
in_world-else w mine (Err fault) actor apart = agree-refl actor w
in_world-else w TheAuthority (Ok s) TheAuthority apart = absurd (true≢false apart)
in_world-else w TheAuthority (Ok s) (Client c) apart = refl
in_world-else w TheAuthority (Ok s) (Node g m) apart = refl
in_world-else w (Client v) (Ok s) TheAuthority apart = refl
in_world-else w (Client v) (Ok s) (Client c) apart = sym (put_else w.clients v s.state c apart)
in_world-else w (Client v) (Ok s) (Node g m) apart = refl
in_world-else w (Node g m) (Ok s) TheAuthority apart = refl
in_world-else w (Node g m) (Ok s) (Client c) apart = refl
in_world-else w (Node g m) (Ok s) (Node h n) apart = sym (put_at_else w.nodes g m s.state h n apart)

-- an event leaves all actors but its own
pub frame : (plan : Plan) (w : World) (e : Event) (actor : Actor) → same_actor (actor_of e) actor ≡ false → Agree actor w (after plan w e)
frame plan w e actor apart = grind (arith, common_steps, step_of_actor, in_world-else)

pub agree-sym : (actor : Actor) (w v : World) → Agree actor w v → Agree actor v w
agree-sym TheAuthority w v h = sym h
agree-sym (Client c) w v h = sym h
agree-sym (Node g m) w v h = sym h

pub agree-trans : (actor : Actor) (u w v : World) → Agree actor u w → Agree actor w v → Agree actor u v
agree-trans TheAuthority u w v p q = p ∙ q
agree-trans (Client c) u w v p q = p ∙ q
agree-trans (Node g m) u w v p q = p ∙ q
