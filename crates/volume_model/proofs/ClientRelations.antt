-- What holds of a client and itself after any event, from what each step that changes a client makes of it
use Rattle.std.proofs.Common.{◌≡◌, ℕ, true, not, ◌&&◌, ◌==◌, nat_lt, List, [], ◌∷◌, Option, Some, None, Result, Ok, Err, length, refl, subst}
use Rattle.volume_model.specs.Common.{numbered, Redo, record_at, Plan, Label, Place, Message, View, Report, Ack, Page, From, NodeAnswer, in_group, Stage, ClientStep, ClientAnswer, is_born, is_open, Change, is_transaction, issue_step, issued, write_of, resent, page_asked, report_taken, cut_client, opened, viewed, ack_taken, are_places, taken, World, Event, AuthorityStep, of_authority, of_client, of_node, after_step, after, run, assigned, advanced, refreshed, grown, take, Assign, Advance, Refresh, Grow, Issue, Take, Cut, Open, Resend, Read, Deliver, Hydrate, Restart, Offer}
use Rattle.volume_model.specs.Client.{Client}
use Rattle.volume_model.proofs.Basics.{put-all}
use Rattle.volume_model.proofs.NodeSteps.{refuse_if-ok}
use Rattle.volume_model.specs.declared.fault.Fault.{Fault}
use Rattle.volume_model.specs.declared.fault.Fault.TheVariants.{NoActor, NoGroup, NotAddressed, NotInPlan, NotOpen}
use Rattle.std.proofs.lemmas.Grind.{common_steps}
use Rattle.std.proofs.Common.{arith}

-- each step that changes a client leaves it in this relation to what it was
pub record AreSteps (plan : Plan) (R : Client → Client → Type 0) : Type 0 where
  pub same : (client : Client) → R client client
  pub issue : (v : ℕ) (client : Client) (changes : List Change) (step : ClientStep) → issued plan v client changes ≡ Ok step → R client step.client
  pub cut : (v : ℕ) (client : Client) (step : ClientStep) → cut_client plan v client ≡ Ok step → R client step.client
  pub start : (v : ℕ) (client : Client) (step : ClientStep) → opened plan client ≡ Ok step → R client step.client
  pub view : (v : ℕ) (client : Client) (places : List Place) (stage : Stage) → client.stage ≡ stage → R client (viewed plan v client places stage).client
  pub report : (v : ℕ) (client : Client) (group : ℕ) (l : Label) (from : From) → R client (report_taken v client group l from)
  pub ack : (v : ℕ) (client : Client) (group : ℕ) (l : Label) (sender reached : ℕ) → R client (ack_taken plan client group l sender reached)

pub Ok-is : (a b : ClientStep) → ◌≡◌ {A = ClientAnswer} (Ok a) (Ok b) → a ≡ b
Ok-is a b h = cc

-- what has passed where a client issues
pub issued-ok : (plan : Plan) (v : ℕ) (client : Client) (changes : List Change) (step : ClientStep) → issued plan v client changes ≡ Ok step
    → (is_open client.stage ≡ true) × (is_transaction (length client.groups) changes ≡ true) × (issue_step v client changes ≡ step)
issued-ok plan v client changes step h = grind (arith, common_steps)

module _ (plan : Plan) (R : Client → Client → Type 0) (steps : AreSteps plan R) where
  module _ (v : ℕ) (client : Client) where
    abbrev IsRelated : ClientStep → Type 0
    IsRelated step = R client step.client

    resend_on : (lsn : ℕ) (step : ClientStep) → resent v client lsn ≡ Ok step → IsRelated step
    resend_on lsn step h =
        let (z, h0) = refuse_if-ok (not (is_born client.stage)) NoActor _ step h in
        let (a, h1) = refuse_if-ok (not (is_open client.stage)) NotOpen _ step h0 in
        go (record_at client.log lsn) h1
      where
        go : (found : Option Redo) → write_of v client found ≡ Ok step → IsRelated step
        go None h = cc
        go (Some r) h = subst IsRelated (Ok-is _ step h) (steps.same client)

    read_on : (group block : ℕ) (step : ClientStep) → page_asked v client group block ≡ Ok step → IsRelated step
    read_on group block step h =
        let (z, h0) = refuse_if-ok (not (is_born client.stage)) NoActor _ step h in
        let (a, h1) = refuse_if-ok (not (is_open client.stage)) NotOpen _ step h0 in
        let (b, h2) = refuse_if-ok (not (nat_lt group (length client.groups))) NoGroup _ step h1 in
        subst IsRelated (Ok-is _ step h2) (steps.same client)

    taken_on : (m : Message) (step : ClientStep) → taken plan v client m ≡ Ok step → IsRelated step
    taken_on (View of places) step h =
        let (a, h1) = refuse_if-ok (not (of == v)) NotAddressed _ step h in
        let (b, h2) = refuse_if-ok (not (are_places plan places)) NotInPlan _ step h1 in
        subst IsRelated (Ok-is _ step h2) (steps.view v client places client.stage refl)
    taken_on (Report group l sender c) step h =
        let (a, h1) = refuse_if-ok (not (l.volume == v && (nat_lt group plan.groups && (in_group group c && nat_lt sender 64)))) NotAddressed _ step h in
        let (b, h2) = refuse_if-ok (not (is_born client.stage)) NoActor _ step h1 in
        subst IsRelated (Ok-is _ step h2) (steps.report v client group l (record { sender = sender; contents = c }))
    taken_on (Ack group l sender reached) step h =
        let (a, h1) = refuse_if-ok (not (l.volume == v && (nat_lt group plan.groups && nat_lt sender 64))) NotAddressed _ step h in
        let (b, h2) = refuse_if-ok (not (is_born client.stage)) NoActor _ step h1 in
        subst IsRelated (Ok-is _ step h2) (steps.ack v client group l sender reached)
    taken_on (Page group l sender block point bytes) step h =
        let (a, h1) = refuse_if-ok (not (l.volume == v && (nat_lt group plan.groups && nat_lt sender 64))) NotAddressed _ step h in
        let (b, h2) = refuse_if-ok (not (is_born client.stage)) NoActor _ step h1 in
        subst IsRelated (Ok-is _ step h2) (steps.same client)
    taken_on m step h = cc

    take_on : (found : Option Message) (step : ClientStep) → take plan v client found ≡ Ok step → IsRelated step
    take_on None step h = cc
    take_on (Some m) step h = taken_on m step h

  module _ (world : World) where
    abbrev AllRelate : World → Type 0
    AllRelate later = (y : ℕ) → R (world.clients y) (later.clients y)

    by_authority : (answer : Result AuthorityStep Fault) → AllRelate (after_step world (of_authority world answer))
    by_authority (Err number) y = steps.same (world.clients y)
    by_authority (Ok s) y = steps.same (world.clients y)

    by_node : (group x : ℕ) (answer : NodeAnswer) → AllRelate (after_step world (of_node world group x answer))
    by_node group x (Err number) y = steps.same (world.clients y)
    by_node group x (Ok s) y = steps.same (world.clients y)

    by_client : (v : ℕ) (answer : ClientAnswer) → ((s : ClientStep) → answer ≡ Ok s → R (world.clients v) s.client) → AllRelate (after_step world (of_client world v answer))
    by_client v (Err number) h y = steps.same (world.clients y)
    by_client v (Ok s) h y = put-all (λ u c. R (world.clients u) c) world.clients v s.client (h s refl) (λ u. steps.same (world.clients u)) y

    pub event_on : (event : Event) → AllRelate (after plan world event)
    event_on Assign = by_authority (assigned plan world.authority)
    event_on (Advance group c) = by_authority (advanced plan world.authority group c)
    event_on (Refresh volume) = by_authority (refreshed plan world.authority volume)
    event_on Grow = by_authority (grown plan world.authority)
    event_on (Issue v changes) = by_client v _ (steps.issue v (world.clients v) changes)
    event_on (Take v number) = by_client v _ (take_on v (world.clients v) (numbered world.messages number))
    event_on (Cut v) = by_client v _ (steps.cut v (world.clients v))
    event_on (Open v) = by_client v _ (steps.start v (world.clients v))
    event_on (Resend v lsn) = by_client v _ (resend_on v (world.clients v) lsn)
    event_on (Read v group block) = by_client v _ (read_on v (world.clients v) group block)
    event_on (Deliver group x number) = by_node group x _
    event_on (Hydrate group x) = by_node group x _
    event_on (Restart group x) = by_node group x _
    event_on (Offer group x lsn) = by_node group x _

  pub run_on : ((a b c : Client) → R a b → R b c → R a c) → (events : List Event) (world : World) (y : ℕ) → R (world.clients y) ((run plan world events).clients y)
  run_on further [] world y = steps.same (world.clients y)
  run_on further (event ∷ events) world y = further (world.clients y) ((after plan world event).clients y) _ (event_on world event y) (run_on further events (after plan world event) y)
