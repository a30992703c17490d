-- How many groups have joined after an event.
use Rattle.std.proofs.Common.{◌≡◌, ℕ, ◌+◌, List, [], ◌∷◌, length-append, Some, Result, Ok, Err, refl, sym, ap, ◌∙◌}
use Rattle.volume_model.specs.declared.fault.Fault.{Fault}
use Rattle.volume_model.specs.declared.fault.Fault.TheVariants.{AllGrown, EpochsSpent, NoGroup, NotInPlan, Superseded}
use Rattle.volume_model.specs.Common.{Plan, Message, Authority, AuthorityStep, World, Event, assigned, advanced, refreshed, grown, groups_joined, of_authority, step, after, after_step, Assign, Advance, Refresh, Grow, makes, TheAuthority}
use Rattle.volume_model.proofs.Frames.{frame}
use Rattle.volume_model.proofs.Groups.{length-slice_set}
use Rattle.volume_model.proofs.NodeSteps.{refuse_if-ok}
use Rattle.journal.specs.Joined.{joined_after}

-- a step of the authority leaves so many
by_authority : (w : World) (answer : Result AuthorityStep Fault) (ms : List Message) (n : ℕ) → makes (of_authority w answer) ≡ Some ms → ((s : AuthorityStep) → answer ≡ Ok s → groups_joined s.authority ≡ n) → groups_joined (after_step w (of_authority w answer)).authority ≡ n
by_authority w (Err fault) ms n h good = absurd (cc)
by_authority w (Ok s) ms n h good = good s refl

step-is : (a b : AuthorityStep) → ◌≡◌ {A = Result AuthorityStep Fault} (Ok a) (Ok b) → a ≡ b
step-is a b h = cc

module _ (plan : Plan) (a : Authority) (s : AuthorityStep) where
  assigned-joined : assigned plan a ≡ Ok s → groups_joined s.authority ≡ groups_joined a
  assigned-joined h = let (b, h1) = refuse_if-ok _ EpochsSpent _ s h in sym (ap (λ (z : AuthorityStep). groups_joined z.authority) (step-is _ s h1))

  advanced-joined : (group c : ℕ) → advanced plan a group c ≡ Ok s → groups_joined s.authority ≡ groups_joined a
  advanced-joined group c h =
      let (b, h1) = refuse_if-ok _ NoGroup _ s h in
      let (d, h2) = refuse_if-ok _ NotInPlan _ s h1 in
      sym (ap (λ (z : AuthorityStep). groups_joined z.authority) (step-is _ s h2)) ∙ length-slice_set a.configurations group c

  refreshed-joined : (volume : ℕ) → refreshed plan a volume ≡ Ok s → groups_joined s.authority ≡ groups_joined a
  refreshed-joined volume h = let (b, h1) = refuse_if-ok _ Superseded _ s h in sym (ap (λ (z : AuthorityStep). groups_joined z.authority) (step-is _ s h1))

  grown-joined : grown plan a ≡ Ok s → groups_joined s.authority ≡ groups_joined a + 1
  grown-joined h = let (b, h1) = refuse_if-ok _ AllGrown _ s h in sym (ap (λ (z : AuthorityStep). groups_joined z.authority) (step-is _ s h1)) ∙ length-append a.configurations (0 ∷ [])

-- an event that isn't refused leaves as many as it says
pub joined_step : (plan : Plan) (w : World) (e : Event) (ms : List Message) → makes (step plan w e) ≡ Some ms → groups_joined (after plan w e).authority ≡ joined_after (groups_joined w.authority) e
joined_step plan w Assign ms h = by_authority w (assigned plan w.authority) ms (groups_joined w.authority) h (assigned-joined plan w.authority)
joined_step plan w (Advance group c) ms h = by_authority w (advanced plan w.authority group c) ms (groups_joined w.authority) h (λ s. advanced-joined plan w.authority s group c)
joined_step plan w (Refresh volume) ms h = by_authority w (refreshed plan w.authority volume) ms (groups_joined w.authority) h (λ s. refreshed-joined plan w.authority s volume)
joined_step plan w Grow ms h = by_authority w (grown plan w.authority) ms (groups_joined w.authority + 1) h (grown-joined plan w.authority)
joined_step plan w e ms h = ap (λ (a : Authority). groups_joined a) (sym (frame plan w e TheAuthority refl))
