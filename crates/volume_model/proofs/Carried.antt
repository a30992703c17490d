-- A lineage that is carried is the one that the client of its last volume epoch has
use Rattle.std.proofs.Common.{◌≡◌, ℕ, ◌<◌, ◌≤◌, Bool, true, false, not, ◌&&◌, ◌==◌, nat_lt, ◌⊎◌, List, [], ◌∷◌, Option, Some, None, Result, Ok, Err, refl, sym, ap, ◌∙◌, subst, inl, inr, arith}
use Rattle.std.proofs.lemmas.Bool.{cases_Bool, cases_lt, and_parts, both_ways, ltb-true}
use Rattle.volume_model.specs.Common.{numbered, Redo, Lineage, birth, last_epoch, Contents, Piece, Plan, is_named, IsCertified, Label, Message, StepTo, Fence, Report, Install, Write, Gossip, CopyAsk, CopyReport, PageAsk, refuse_if, NodeStep, NodeAnswer, born_node, label_checks, take_record, installed, in_group, reaction, hydrated, restarted, offered, has_cut, World, Event, AuthorityStep, of_authority, of_client, of_node, after_step, after, run, opening, assigned, advanced, refreshed, grown, deliver, if_there, groups_joined, ClientAnswer, Assign, Advance, Refresh, Grow, Issue, Take, Cut, Open, Resend, Read, Deliver, Hydrate, Restart, Offer, Carries, HasOneLineageAnEpoch, OneLineageAnEpoch, by_node, by_client, by_report, by_install, by_copy}
use Rattle.volume_model.specs.Node.{Node}
use Rattle.volume_model.proofs.Invariant.{Held, lineage_of, HasCut, IsCopy}
use Rattle.volume_model.proofs.Renewed.{IsKeptWorld}
use Rattle.volume_model.proofs.Kept.{install_of, IsInstall, IsCopied, MessageKept, IsKept}
use Rattle.volume_model.proofs.NodeSteps.{refuse_if-ok, page_answer-ok}
use Rattle.volume_model.proofs.Run.{run_kept, opening_kept}
use Rattle.volume_model.proofs.Sound.{facts, positive_of}
use Rattle.volume_model.proofs.Finds.{run_keeps, run_tidy}
use Rattle.volume_model.specs.declared.fault.Fault.{Fault}
use Rattle.volume_model.specs.declared.fault.Fault.TheVariants.{NoActor, NotAddressed}
use Rattle.std.proofs.lemmas.Grind.{common_steps}

-- neither lineage nor records
abbrev pub nothing : Contents
nothing = record { lineage = []; records = [] }

-- what a member of the root is born with
abbrev pub at_birth : Contents
at_birth = record { lineage = birth; records = [] }

-- a node that isn't whole holds nothing, and one outside the plan's groups what it was born with at most
pub record IsBare (plan : Plan) (group : ℕ) (node : Node) : Type 0 where
  pub holds_nothing : node.whole ≡ false → group < plan.groups → node.contents ≡ nothing
  pub outside : plan.groups ≤ group → (node.contents ≡ nothing) ⊎ (node.contents ≡ at_birth)

-- a node that isn't whole after a step wasn't before it, and holds the same
record StaysBare (old new : Node) : Type 0 where
  whole : new.whole ≡ false → old.whole ≡ false
  contents : new.whole ≡ false → new.contents ≡ old.contents

Ok-is : (a b : NodeStep) → ◌≡◌ {A = NodeAnswer} (Ok a) (Ok b) → a ≡ b
Ok-is a b h = cc

same_bare : (node : Node) → StaysBare node node
same_bare node = record { whole = λ h. h; contents = λ h. refl }

module _ (plan : Plan) (group x : ℕ) (node : Node) where
  -- the step leaves a node that isn't whole as bare as it was
  abbrev IsBareStep : NodeStep → Type 0
  IsBareStep step = StaysBare node step.node

  -- a label's tests let pass what is sent to a whole node
  passed : (l : Label) (rest : NodeAnswer) (step : NodeStep) → label_checks node l rest ≡ Ok step → (node.whole ≡ true) × (rest ≡ Ok step)
  passed l rest step h = grind (arith, common_steps)

  was_whole : (new : Node) → new.whole ≡ true → StaysBare node new
  was_whole new w = record { whole = λ h. absurd (both_ways _ h w); contents = λ h. absurd (both_ways _ h w) }

  record_bare : (l : Label) (r : Redo) (step : NodeStep) → take_record group x node l r ≡ Ok step → IsBareStep step
  record_bare l r step h = grind (arith, common_steps)

  -- an install leaves a node as whole as it was
  installed_whole : (l : Label) (piece : Piece) (c : Contents) → (installed group x node l piece c).node.whole ≡ node.whole
  unfolding installed
  installed_whole l piece c = grind (arith, common_steps)

  reaction_bare : (m : Message) (step : NodeStep) → reaction plan group x node m ≡ Ok step → IsBareStep step
  reaction_bare (Fence to l) step h = grind (arith, common_steps)
  reaction_bare (Install to l piece c) step h = grind (arith, common_steps, refuse_if-ok, not, passed, IsBareStep, Ok-is, was_whole, installed_whole)
  reaction_bare (Write to l r) step h = record_bare l r step (refuse_if-ok (not (to == group && r.group == group)) NotAddressed _ step h).1
  reaction_bare (Gossip to l r) step h = record_bare l r step (refuse_if-ok (not (to == group && r.group == group)) NotAddressed _ step h).1
  reaction_bare (StepTo to place) step h = grind (arith, common_steps)
  reaction_bare (CopyAsk to epoch) step h = grind (arith, common_steps)
  reaction_bare (CopyReport to epoch sender s piece c) step h = grind (arith, common_steps, (refuse_if-ok (not (to == group && in_group group c && nat_lt sender 64)) NotAddressed _ step h), (not (to == group && in_group group c && nat_lt sender 64)))
  reaction_bare (PageAsk to l block point) step h = grind (arith, common_steps, refuse_if-ok, not, passed, page_answer-ok, IsBareStep, same_bare)
  reaction_bare m step h = cc

  deliver_bare : (found : Option Message) (step : NodeStep) → deliver plan group x node found ≡ Ok step → IsBareStep step
  deliver_bare None step h = cc
  deliver_bare (Some m) step h = reaction_bare m step h

  hydrate_bare : (step : NodeStep) → hydrated plan group x node ≡ Ok step → IsBareStep step
  hydrate_bare step h = grind (arith, common_steps)

  restart_bare : (step : NodeStep) → ◌≡◌ {A = NodeAnswer} (Ok (record { made = []; node = restarted node })) (Ok step) → IsBareStep step
  restart_bare step h = subst IsBareStep (Ok-is _ step h) (record { whole = λ w. w; contents = λ w. refl })

  offer_bare : (lsn : ℕ) (step : NodeStep) → offered group node lsn ≡ Ok step → IsBareStep step
  offer_bare lsn step h = grind (arith, common_steps)

module _ (plan : Plan) (world : World) (bare : (group x : ℕ) → IsBare plan group (world.nodes group x)) where
  -- each node is bare where it has to be
  abbrev AllBare : World → Type 0
  AllBare later = (group x : ℕ) → IsBare plan group (later.nodes group x)

  by_the_authority : (answer : Result AuthorityStep Fault) → AllBare (after_step world (of_authority world answer))
  by_the_authority (Err number) = bare
  by_the_authority (Ok s) = bare

  by_a_client : (v : ℕ) (answer : ClientAnswer) → AllBare (after_step world (of_client world v answer))
  by_a_client v (Err number) = bare
  by_a_client v (Ok s) = bare

  stepped : (group x : ℕ) → group < plan.groups → (answer : NodeAnswer) → ((step : NodeStep) → answer ≡ Ok step → StaysBare (world.nodes group x) step.node) → AllBare (after_step world (of_node world group x answer))
  stepped group x there (Err number) good = bare
  stepped group x there (Ok step) good =
      let s : StaysBare (world.nodes group x) step.node = good step refl in
      grind (arith, common_steps)

  by_a_node : (group x : ℕ) (answer : NodeAnswer) → ((step : NodeStep) → answer ≡ Ok step → StaysBare (world.nodes group x) step.node) → AllBare (after_step world (of_node world group x (if_there plan (groups_joined world.authority) group x answer)))
  by_a_node group x answer good = go (nat_lt group (groups_joined world.authority) && is_named plan group x) refl
    where
      go : (is : Bool) → (nat_lt group (groups_joined world.authority) && is_named plan group x) ≡ is → AllBare (after_step world (of_node world group x (refuse_if (not is) NoActor answer)))
      go false e = bare
      go true e = stepped group x (ltb-true group plan.groups (and_parts (nat_lt group plan.groups) _ (and_parts (nat_lt group (groups_joined world.authority)) (is_named plan group x) e).1).0) answer good

  event_bare : (event : Event) → AllBare (after plan world event)
  event_bare Assign = by_the_authority (assigned plan world.authority)
  event_bare (Advance group c) = by_the_authority (advanced plan world.authority group c)
  event_bare (Refresh volume) = by_the_authority (refreshed plan world.authority volume)
  event_bare Grow = by_the_authority (grown plan world.authority)
  event_bare (Issue v changes) = by_a_client v _
  event_bare (Take v number) = by_a_client v _
  event_bare (Cut v) = by_a_client v _
  event_bare (Open v) = by_a_client v _
  event_bare (Resend v lsn) = by_a_client v _
  event_bare (Read v group block) = by_a_client v _
  event_bare (Deliver group x number) = by_a_node group x _ (deliver_bare plan group x (world.nodes group x) (numbered world.messages number))
  event_bare (Hydrate group x) = by_a_node group x _ (hydrate_bare plan group x (world.nodes group x))
  event_bare (Restart group x) = by_a_node group x _ (restart_bare plan group x (world.nodes group x))
  event_bare (Offer group x lsn) = by_a_node group x _ (offer_bare plan group x (world.nodes group x) lsn)

run_bare : (plan : Plan) (events : List Event) (world : World) → ((group x : ℕ) → IsBare plan group (world.nodes group x)) → (group x : ℕ) → IsBare plan group ((run plan world events).nodes group x)
run_bare plan [] world bare = bare
run_bare plan (event ∷ events) world bare = run_bare plan events (after plan world event) (event_bare plan world bare event)

born_bare : (plan : Plan) (group x : ℕ) → IsBare plan group (born_node plan group x)
born_bare plan group x = grind (arith, common_steps)

pub ends_bare : (plan : Plan) (events : List Event) (group x : ℕ) → IsBare plan group ((run plan (opening plan) events).nodes group x)
ends_bare plan events = run_bare plan events (opening plan) (born_bare plan)

module _ (plan : Plan) (certified : IsCertified plan) (events : List Event) where
  -- the world of the run
  abbrev pub end : World
  end = run plan (opening plan) events

  pub known : IsKeptWorld plan end
  known = run_kept plan certified events (opening plan) (opening_kept plan certified)

  -- what its members held when they made their copies
  abbrev pub held : Held
  held = known.held

  pub kept : IsKept plan held end
  kept = known.kept

  -- no lineage, or that of a client that has cut, which is known by its last volume epoch
  abbrev pub IsKnown : Lineage → Type 0
  IsKnown lineage = (lineage ≡ []) ⊎ (HasCut end (last_epoch lineage) × (lineage ≡ lineage_of end (last_epoch lineage)))

  copy_known : (group : ℕ) (q : Contents) → IsCopy end group q → IsKnown q.lineage
  copy_known group q copy = inr (copy.cut, copy.lineage)

  client_known : (v : ℕ) → IsKnown (lineage_of end v)
  client_known v =
      elim (cases_Bool (has_cut (end.clients v).stage)) [
        | inl cut ↦ grind (arith, common_steps, lineage_of, end, facts, kept, HasCut)
        | inr not_cut ↦ inl ((run_tidy plan events v).no_lineage not_cut)
      ]

  birth_known : IsKnown birth
  birth_known = inr (((run_keeps plan events (opening plan) 1).stays refl).cut_on, sym ((run_keeps plan events (opening plan) 1).stays refl).lineage_on)

  node_known : (group x : ℕ) → IsKnown (end.nodes group x).contents.lineage
  node_known group x = grind (arith, common_steps, end, ends_bare, cases_lt, cases_Bool, copy_known, kept, IsKnown, birth_known, (ends_bare plan events group x), (cases_lt group plan.groups))

  pub carried_known : (lineage : Lineage) → Carries end lineage → IsKnown lineage
  carried_known lineage (by_node group x e) = subst IsKnown e (node_known group x)
  carried_known lineage (by_client v e) = subst IsKnown e (client_known v)
  carried_known lineage (by_report group l x q i e) = subst IsKnown e (let k : MessageKept plan held end (Report group l x q) = kept.messages _ i in copy_known group q k.0)
  carried_known lineage (by_install group l p q i e) =
      let k : IsInstall end group l p q = kept.messages _ i in
      let same : (install_of end group l.volume).lineage ≡ q.lineage = ap (λ z. z.lineage) (sym k.is.is) in
      subst IsKnown (same ∙ e) (copy_known group (install_of end group l.volume) k.copy)
  carried_known lineage (by_copy group f x s p q i e) =
      let k : IsCopied held end group f x s p q = kept.messages _ i in
      let same : (held group x s).lineage ≡ q.lineage = ap (λ z. z.lineage) (sym k.is.is) in
      subst IsKnown (same ∙ e) (copy_known group (held group x s) k.copy)

  one_known : (lineage other : Lineage) → IsKnown lineage → IsKnown other → last_epoch lineage ≡ last_epoch other → lineage ≡ other
  one_known lineage other (inl a) (inl b) e = a ∙ sym b
  one_known lineage other (inl a) (inr b) e = grind (arith, common_steps, positive_of, end, kept)
  one_known lineage other (inr a) (inl b) e = grind (arith, common_steps, positive_of, end, kept)
  one_known lineage other (inr a) (inr b) e = a.1 ∙ ap (lineage_of end) e ∙ sym b.1

  one_lineage : HasOneLineageAnEpoch end
  one_lineage lineage other a b e = one_known lineage other (carried_known lineage a) (carried_known other b) e

pub one_lineage_an_epoch : OneLineageAnEpoch
one_lineage_an_epoch plan certified events = one_lineage plan certified events
