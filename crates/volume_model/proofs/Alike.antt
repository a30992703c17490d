-- A step is the same where its actor is the same and the messages are kept.
use Rattle.std.proofs.Common.{◌≡◌, ◌≢◌, ℕ, not, ◌&&◌, nat_lt, Bool, true, false, List, [], Option, Some, None, Result, Ok, Err, refl, sym, ap, ◌∙◌, ⊎_elim}
use Rattle.volume_model.specs.declared.fault.Fault.{Fault}
use Rattle.volume_model.specs.declared.fault.Fault.TheVariants.{NoMessage, NoActor}
use Rattle.volume_model.specs.Common.{numbered, refuse_if, Plan, is_named, Message, NodeAnswer, hydrated, restarted, offered, ClientAnswer, issued, resent, page_asked, cut_client, opened, Authority, World, Event, AuthorityStep, Step, assigned, advanced, refreshed, grown, deliver, take, if_there, of_authority, of_client, of_node, step, groups_joined, Assign, Advance, Refresh, Grow, Issue, Take, Cut, Open, Resend, Read, Deliver, Hydrate, Restart, Offer, actor_of, Agree, Keeps, JoinedAlike, answer, makes, refusal}
use Rattle.volume_model.specs.Node.{Node}
use Rattle.volume_model.specs.Client as model
use Rattle.volume_model.proofs.ListFacts.{by_test, numbered_kept}
use Rattle.std.proofs.lemmas.Grind.{common_steps}
use Rattle.std.proofs.Common.{arith}

-- the result of a step of each kind of actor
abbrev pub authority_answer : Result AuthorityStep Fault → Result (List Message) Fault
authority_answer (Err fault) = Err fault
authority_answer (Ok s) = Ok s.made

abbrev pub client_answer : ClientAnswer → Result (List Message) Fault
client_answer (Err fault) = Err fault
client_answer (Ok s) = Ok s.made

abbrev pub node_answer : NodeAnswer → Result (List Message) Fault
node_answer (Err fault) = Err fault
node_answer (Ok s) = Ok s.made

of_authority-answer : (w : World) (r : Result AuthorityStep Fault) → answer (of_authority w r) ≡ authority_answer r
of_authority-answer w (Err fault) = refl
of_authority-answer w (Ok s) = refl

of_client-answer : (w : World) (v : ℕ) (r : ClientAnswer) → answer (of_client w v r) ≡ client_answer r
of_client-answer w v (Err fault) = refl
of_client-answer w v (Ok s) = refl

of_node-answer : (w : World) (g m : ℕ) (r : NodeAnswer) → answer (of_node w g m r) ≡ node_answer r
of_node-answer w g m (Err fault) = refl
of_node-answer w g m (Ok s) = refl

-- a message that was found stays the same, unless the result is the result of none
same_message : {B : Type 0} (f : Option Message → B) (none : B) → f None ≡ none → (w v : World) → Keeps w v → (n : ℕ) → f (numbered w.messages n) ≢ none → (o : Option Message) → numbered w.messages n ≡ o → numbered v.messages n ≡ numbered w.messages n
same_message f none e w v k n found None is = absurd (found (ap f is ∙ e))
same_message f none e w v k n found (Some x) is = numbered_kept w.messages v.messages k n x is ∙ sym is

module _ (plan : Plan) where
  -- the result of each kind, where the actors are one
  authority_alike : (w v : World) (r s : Result AuthorityStep Fault) → r ≡ s → answer (of_authority v s) ≡ answer (of_authority w r)
  authority_alike w v r s e = of_authority-answer v s ∙ ap authority_answer (sym e) ∙ sym (of_authority-answer w r)

  client_alike : (w v : World) (c : ℕ) (r s : ClientAnswer) → r ≡ s → answer (of_client v c s) ≡ answer (of_client w c r)
  client_alike w v c r s e = of_client-answer v c s ∙ ap client_answer (sym e) ∙ sym (of_client-answer w c r)

  node_alike : (w v : World) (g m : ℕ) (r s : NodeAnswer) → r ≡ s → answer (of_node v g m s) ≡ answer (of_node w g m r)
  node_alike w v g m r s e = of_node-answer v g m s ∙ ap node_answer (sym e) ∙ sym (of_node-answer w g m r)

  -- a Take by the same client
  take_same : (w v : World) (c n : ℕ) → w.clients c ≡ v.clients c → Keeps w v → answer (of_client w c (take plan c (w.clients c) (numbered w.messages n))) ≢ Err NoMessage
      → take plan c (w.clients c) (numbered w.messages n) ≡ take plan c (v.clients c) (numbered v.messages n)
  take_same w v c n same keeps found =
      let event_result = of_client-answer w c (take plan c (w.clients c) (numbered w.messages n)) in
      let message = same_message (λ o. client_answer (take plan c (w.clients c) o)) (Err NoMessage) refl w v keeps n (λ e. found (event_result ∙ e)) (numbered w.messages n) refl in
      ap (λ o. take plan c (w.clients c) o) (sym message) ∙ ap (λ (s : model.Client). take plan c s (numbered v.messages n)) same

  -- a Deliver to the same node
  deliver_same : (joined : ℕ) (w v : World) (g m n : ℕ) → w.nodes g m ≡ v.nodes g m → Keeps w v → answer (of_node w g m (if_there plan joined g m (deliver plan g m (w.nodes g m) (numbered w.messages n)))) ≢ Err NoMessage
      → if_there plan joined g m (deliver plan g m (w.nodes g m) (numbered w.messages n)) ≡ if_there plan joined g m (deliver plan g m (v.nodes g m) (numbered v.messages n))
  deliver_same joined w v g m n same keeps found = ⊎_elim
      (λ (there : (nat_lt g joined && is_named plan g m) ≡ true).
      let event_result = of_node-answer w g m (if_there plan joined g m (deliver plan g m (w.nodes g m) (numbered w.messages n))) in
      let none : node_answer (if_there plan joined g m (Err NoMessage)) ≡ Err NoMessage = ap (λ (b : Bool). node_answer (refuse_if (not b) NoActor (Err NoMessage))) there in
      let message = same_message (λ o. node_answer (if_there plan joined g m (deliver plan g m (w.nodes g m) o))) (Err NoMessage) none w v keeps n (λ e. found (event_result ∙ e)) (numbered w.messages n) refl in
      ap (λ o. if_there plan joined g m (deliver plan g m (w.nodes g m) o)) (sym message) ∙ ap (λ (s : Node). if_there plan joined g m (deliver plan g m s (numbered v.messages n))) same)
      (λ (absent : (nat_lt g joined && is_named plan g m) ≡ false).
      let refused : (r : NodeAnswer) → if_there plan joined g m r ≡ Err NoActor = λ r. ap (λ (b : Bool). refuse_if (not b) NoActor r) absent in
      refused (deliver plan g m (w.nodes g m) (numbered w.messages n)) ∙ sym (refused (deliver plan g m (v.nodes g m) (numbered v.messages n))))
      (by_test (nat_lt g joined && is_named plan g m))

  -- a node is there in both worlds or in neither
  there_alike : (i j g m : ℕ) (r : NodeAnswer) → nat_lt g i ≡ nat_lt g j → if_there plan i g m r ≡ if_there plan j g m r
  there_alike i j g m r e = ap (λ (b : Bool). refuse_if (not (b && is_named plan g m)) NoActor r) e

  -- The result of an event is the same in v and in w, where both have its actor in one state, a node is there in both or in neither, and v has the messages of w; but that there was no message
  pub answered_alike : (w v : World) (e : Event) → Agree (actor_of e) w v → JoinedAlike e w v → Keeps w v → answer (step plan w e) ≢ Err NoMessage → answer (step plan v e) ≡ answer (step plan w e)
  answered_alike w v Assign same there keeps found = authority_alike w v (assigned plan w.authority) (assigned plan v.authority) (ap (λ (s : Authority). assigned plan s) same)
  answered_alike w v (Advance group c) same there keeps found = authority_alike w v (advanced plan w.authority group c) (advanced plan v.authority group c) (ap (λ (s : Authority). advanced plan s group c) same)
  answered_alike w v (Refresh volume) same there keeps found = authority_alike w v (refreshed plan w.authority volume) (refreshed plan v.authority volume) (ap (λ (s : Authority). refreshed plan s volume) same)
  answered_alike w v Grow same there keeps found = authority_alike w v (grown plan w.authority) (grown plan v.authority) (ap (λ (s : Authority). grown plan s) same)
  answered_alike w v (Issue volume changes) same there keeps found = client_alike w v volume (issued plan volume (w.clients volume) changes) (issued plan volume (v.clients volume) changes) (ap (λ (s : model.Client). issued plan volume s changes) same)
  answered_alike w v (Take volume number) same there keeps found = client_alike w v volume (take plan volume (w.clients volume) (numbered w.messages number)) (take plan volume (v.clients volume) (numbered v.messages number)) (take_same w v volume number same keeps found)
  answered_alike w v (Cut volume) same there keeps found = client_alike w v volume (cut_client plan volume (w.clients volume)) (cut_client plan volume (v.clients volume)) (ap (λ (s : model.Client). cut_client plan volume s) same)
  answered_alike w v (Open volume) same there keeps found = client_alike w v volume (opened plan (w.clients volume)) (opened plan (v.clients volume)) (ap (λ (s : model.Client). opened plan s) same)
  answered_alike w v (Resend volume lsn) same there keeps found = client_alike w v volume (resent volume (w.clients volume) lsn) (resent volume (v.clients volume) lsn) (ap (λ (s : model.Client). resent volume s lsn) same)
  answered_alike w v (Read volume group block) same there keeps found = client_alike w v volume (page_asked volume (w.clients volume) group block) (page_asked volume (v.clients volume) group block) (ap (λ (s : model.Client). page_asked volume s group block) same)
  answered_alike w v (Deliver group member number) same there keeps found = node_alike w v group member (if_there plan (groups_joined w.authority) group member (deliver plan group member (w.nodes group member) (numbered w.messages number))) (if_there plan (groups_joined v.authority) group member (deliver plan group member (v.nodes group member) (numbered v.messages number))) (deliver_same (groups_joined w.authority) w v group member number same keeps found ∙ there_alike (groups_joined w.authority) (groups_joined v.authority) group member (deliver plan group member (v.nodes group member) (numbered v.messages number)) there)
  answered_alike w v (Hydrate group member) same there keeps found = node_alike w v group member (if_there plan (groups_joined w.authority) group member (hydrated plan group member (w.nodes group member))) (if_there plan (groups_joined v.authority) group member (hydrated plan group member (v.nodes group member))) (ap (λ (s : Node). if_there plan (groups_joined w.authority) group member (hydrated plan group member s)) same ∙ there_alike (groups_joined w.authority) (groups_joined v.authority) group member (hydrated plan group member (v.nodes group member)) there)
  answered_alike w v (Restart group member) same there keeps found = node_alike w v group member (if_there plan (groups_joined w.authority) group member (Ok (record { made = []; node = restarted (w.nodes group member) }))) (if_there plan (groups_joined v.authority) group member (Ok (record { made = []; node = restarted (v.nodes group member) }))) (ap (λ (s : Node). if_there plan (groups_joined w.authority) group member (Ok (record { made = []; node = restarted s }))) same ∙ there_alike (groups_joined w.authority) (groups_joined v.authority) group member (Ok (record { made = []; node = restarted (v.nodes group member) })) there)
  answered_alike w v (Offer group member lsn) same there keeps found = node_alike w v group member (if_there plan (groups_joined w.authority) group member (offered group (w.nodes group member) lsn)) (if_there plan (groups_joined v.authority) group member (offered group (v.nodes group member) lsn)) (ap (λ (s : Node). if_there plan (groups_joined w.authority) group member (offered group s lsn)) same ∙ there_alike (groups_joined w.authority) (groups_joined v.authority) group member (offered group (v.nodes group member) lsn) there)

  event_result-fault : (r : Result Step Fault) (fault : Fault) → answer r ≡ Err fault → r ≡ Err fault
  event_result-fault (Err other) fault h = let e : other ≡ fault = cc in ap Err e
  event_result-fault (Ok s) fault h = absurd (cc)

  answer-refusal : (r : Result Step Fault) → refusal (answer r) ≡ refusal r
  answer-refusal (Err fault) = refl
  answer-refusal (Ok s) = refl

  answer-makes : (r s : Result Step Fault) (ms : List Message) → answer s ≡ answer r → makes r ≡ Some ms → makes s ≡ Some ms
  answer-makes (Err f) s ms e h = absurd (cc)
  answer-makes (Ok r) (Err f) ms e h = absurd (cc)
  answer-makes (Ok r) (Ok s) ms e h = let made : s.made ≡ r.made = cc in ap Some made ∙ h

  -- the same refusal
  pub refused_alike : (w v : World) (e : Event) (fault : Fault) → fault ≢ NoMessage → Agree (actor_of e) w v → JoinedAlike e w v → Keeps w v → step plan w e ≡ Err fault → step plan v e ≡ Err fault
  refused_alike w v e fault other same there keeps h = grind (arith, common_steps, Err, event_result-fault, answered_alike)

  -- the same refusal, by its number
  pub refusal_alike : (w v : World) (e : Event) (number : ℕ) → number ≢ 80 → Agree (actor_of e) w v → JoinedAlike e w v → Keeps w v → refusal (step plan w e) ≡ number → refusal (step plan v e) ≡ number
  refusal_alike w v e number other same there keeps h = grind (arith, common_steps, answered_alike, answer-refusal)

  -- the same messages
  pub made_alike : (w v : World) (e : Event) (ms : List Message) → Agree (actor_of e) w v → JoinedAlike e w v → Keeps w v → makes (step plan w e) ≡ Some ms → makes (step plan v e) ≡ Some ms
  made_alike w v e ms same there keeps h = answer-makes (step plan w e) (step plan v e) ms (answered_alike w v e same there keeps (λ none. made_not_refused (step plan w e) ms h none)) h
    where
      made_not_refused : (r : Result Step Fault) (ms : List Message) → makes r ≡ Some ms → answer r ≡ Err NoMessage → ⊥
      made_not_refused (Err f) ms h e = absurd (cc)
      made_not_refused (Ok s) ms h e = absurd (cc)
