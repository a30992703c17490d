-- Frames, and the turns of the messages in them.
use Rattle.std.proofs.Common.{◌≡◌, ◌≢◌, ℕ, ◌+◌, ◌-◌, ◌^◌, ◌<◌, ◌≤◌, true, false, nat_lt, List, [], ◌∷◌, ◌++◌, length, take, drop, Option, Some, Result, Ok, Err, refl, sym, ap, ◌∙◌, subst, append_assoc, take-append-drop, arith, ltb-false, append-nil, drop_at, length-append, length-take, take_at}
use Rattle.std.specs.Int.{w32, to_be_bytes}
use Rattle.volume_model.specs.Common.{◌>>=◌, Fails, number_of, refuse_if, Plan, Message, NodeStep, NodeAnswer, reaction}
use Rattle.volume_model.specs.declared.fault.Fault.{Fault}
use Rattle.volume_model.specs.declared.fault.Fault.TheVariants.{NoMemory, Short}
use Rattle.volume_model.specs.Node.{Node}
use Rattle.message_bytes.specs.Numbers.{number_at}
use Rattle.message_bytes.specs.Reading.{message_in}
use Rattle.message_bytes.specs.Spelling.{message_spelled}
use Rattle.message_bytes.proofs.Fields.{IsBytes, IsBytes-take, bind_ok, guard_ok, number_takes, ok_is, wide32}
use Rattle.message_bytes.proofs.Handed.{Fails-at}
use Rattle.message_bytes.proofs.Messages.{message_found}
use Rattle.volume_c.specs.declared.actor.Held.{Held}
use Rattle.volume_c.specs.View.{View, ANode, seen, unsent}
use Rattle.volume_c.specs.Calls.{node_does, node_step, with_value, IsRefusal, Step}
use Rattle.volume_c.specs.Joined.{covers, from_node, in_turn, joined, one_turn}
use Rattle.volume_c.specs.Frames.{frame_spelled, framed, next_in, next_step, TakesFrame, TookFront}
use Rattle.volume_c.specs.Turns.{IsNextRefusal}

-- ---- the bytes of a frame

frame-append : (xs ys : List Message) → frame_spelled (xs ++ ys) ≡ frame_spelled xs ++ frame_spelled ys
frame-append [] ys = refl
frame-append (x ∷ xs) ys = ap (λ t. framed x ++ t) (frame-append xs ys) ∙ sym (append_assoc (framed x) (frame_spelled xs) (frame_spelled ys))

-- the message that is read first stands there behind its length
pub next-found : (bytes : List ℕ) (x : Message × List ℕ) → IsBytes bytes → next_in bytes ≡ Ok x → bytes ≡ framed x.0 ++ x.1
unfolding next_in
next-found bytes x fits e =
    let a = bind_ok (number_at w32 bytes) (λ n. refuse_if (nat_lt (length n.1) n.0) Short (message_in (take n.0 n.1) >>= λ m. Ok (m, drop n.0 n.1))) x e in
    let n : ℕ = a.0.0 in
    let rest : List ℕ = a.0.1 in
    let g = guard_ok (nat_lt (length rest) n) Short (message_in (take n rest) >>= λ m. Ok (m, drop n rest)) x a.2 in
    let b = bind_ok (message_in (take n rest)) (λ m. Ok (m, drop n rest)) x g.1 in
    let t = number_takes w32 (2 ^ 32) wide32 bytes a.0 fits a.1 in
    let long : n ≤ length rest = ltb-false _ _ g.0 in
    let text : take n rest ≡ message_spelled b.0 = message_found (take n rest) b.0 (IsBytes-take n rest t.rest_fits) b.1 in
    let whole : length (take n rest) ≡ n = omega (arith, length-take n rest, long) in
    let len : n ≡ length (message_spelled b.0) = sym whole ∙ ap length text in
    let own : bytes ≡ framed b.0 ++ drop n rest =
    t.parts ∙ ap (λ (u : List ℕ). to_be_bytes w32 n ++ u) (sym (take-append-drop n rest)) ∙ sym (append_assoc (to_be_bytes w32 n) (take n rest) (drop n rest)) ∙ (λ i. (to_be_bytes w32 (len i) ++ text i) ++ drop n rest) in
    subst (λ (y : Message × List ℕ). bytes ≡ framed y.0 ++ y.1) (ok_is (b.0, drop n rest) x b.2) own

-- ---- answers that are joined

pub join-covers : (ws : List Message) (x m : Message) (ms : List Message) → covers m x ≡ true → joined (ws ++ x ∷ []) (m ∷ ms) ≡ ws ++ m ∷ ms
join-covers [] x m ms e = rw e refl
join-covers (w ∷ []) x m ms e = ap (λ t. w ∷ t) (join-covers [] x m ms e)
join-covers (w ∷ v ∷ ws) x m ms e = ap (λ t. w ∷ t) (join-covers (v ∷ ws) x m ms e)

pub join-apart : (ws : List Message) (x m : Message) (ms : List Message) → covers m x ≡ false → joined (ws ++ x ∷ []) (m ∷ ms) ≡ (ws ++ x ∷ []) ++ m ∷ ms
join-apart [] x m ms e = rw e refl
join-apart (w ∷ []) x m ms e = ap (λ t. w ∷ t) (join-apart [] x m ms e)
join-apart (w ∷ v ∷ ws) x m ms e = ap (λ t. w ∷ t) (join-apart (v ∷ ws) x m ms e)

-- ---- turns

module _ (plan : Plan) (group member : ℕ) where
  turn-append : (ms ns : List Message) → ((s : NodeStep) → in_turn plan group member s (ms ++ ns) ≡ (in_turn plan group member s ms >>= λ t. in_turn plan group member t ns)) → (r : NodeAnswer)
      → (r >>= λ t. in_turn plan group member t (ms ++ ns)) ≡ ((r >>= λ t. in_turn plan group member t ms) >>= λ t. in_turn plan group member t ns)
  turn-append ms ns later (Ok t) = later t
  turn-append ms ns later (Err fault) = refl

  turns-append : (ms ns : List Message) (s : NodeStep) → in_turn plan group member s (ms ++ ns) ≡ (in_turn plan group member s ms >>= λ t. in_turn plan group member t ns)
  turns-append [] ns s = refl
  turns-append (m ∷ ms) ns s = turn-append ms ns (turns-append ms ns) (one_turn plan group member s m)

  pub took-one : (bytes rest : List ℕ) (m : Message) (s t : NodeStep) → bytes ≡ framed m ++ rest → one_turn plan group member s m ≡ Ok t → TookFront plan group member bytes rest s t
  took-one bytes rest m s t e h = record {
    messages = m ∷ [];
    spelled = e ∙ ap (λ (x : List ℕ). x ++ rest) (sym (append-nil (framed m)));
    turns = ap (λ (r : NodeAnswer). r >>= λ (u : NodeStep). in_turn plan group member u []) h;
  }

  pub took-then : (a b c : List ℕ) (s t u : NodeStep) → TookFront plan group member a b s t → TookFront plan group member b c t u → TookFront plan group member a c s u
  took-then a b c s t u p q = record {
    messages = p.messages ++ q.messages;
    spelled = p.spelled ∙ ap (λ (x : List ℕ). frame_spelled p.messages ++ x) q.spelled ∙ sym (append_assoc (frame_spelled p.messages) (frame_spelled q.messages) c)
        ∙ ap (λ (x : List ℕ). x ++ c) (sym (frame-append p.messages q.messages));
    turns = turns-append p.messages q.messages s ∙ ap (λ (r : NodeAnswer). r >>= λ (v : NodeStep). in_turn plan group member v q.messages) p.turns ∙ q.turns;
  }

-- ---- a handle

number-few : (fault : Fault) → number_of fault < 90
number-few NoMemory = omega arith
number-few fault = omega arith

-- what isn't a refusal's status is 0
status-few : (status : ℕ) (defined : NodeAnswer) → (status ≢ 0 → IsNextRefusal status defined) → 90 ≤ status → ⊥
status-few status defined refused much =
    let some : status ≢ 0 = λ none. omega (arith, none, much) in
    let r = refused some in
    let few : number_of r.0 < 90 = number-few r.0 in
    let is : status ≡ number_of r.0 = r.1 in
    omega (arith, few, is, much)

module _ (plan : Plan) (group member : ℕ) where
  abbrev joins : NodeStep → NodeStep → NodeAnswer
  joins s u = Ok (record { made = joined s.made u.made; node = u.node })

  -- a refused turn, as a refused call
  turn-refused : (s : NodeStep) (m : Message) (fault : Fault) (r : NodeAnswer) → Fails fault (r >>= joins s) → Fails fault (node_step plan group member r)
  turn-refused s m fault (Ok step) h = Fails-at fault _ (node_step plan group member (Ok step)) (λ e. absurd cc) h
  turn-refused s m fault (Err other) h = Fails-at fault _ (node_step plan group member (Err other)) (λ e. cc) h

  abbrev next-with : NodeStep → Result (Message × List ℕ) Fault → Step
  next-with s r = with_value r (λ x. Some (node_step plan group member (reaction plan group member s.node x.0)))

  next-refused : (s : NodeStep) (status : ℕ) (fault : Fault) (r : Result (Message × List ℕ) Fault) → status ≡ number_of fault
      → Fails fault (r >>= λ (x : Message × List ℕ). one_turn plan group member s x.0) → IsRefusal status (next-with s r)
  next-refused s status fault (Ok x) is h = (fault, is, turn-refused s x.0 fault (reaction plan group member s.node x.0) h)
  next-refused s status fault (Err other) is h = (fault, is, Fails-at fault _ _ (λ e. cc) h)

  -- the segment that is held took the front of a frame
  pub frame-taken : (before : Node) (after : NodeStep) (frame rest : List ℕ) (status : ℕ) (old new : Option Held) → seen old ≡ ANode plan group member before → unsent old ≡ [] → seen new ≡ ANode plan group member after.node → unsent new ≡ after.made
      → TookFront plan group member frame rest (from_node before) after → (status ≡ 0 → rest ≡ []) → (status ≢ 0 → IsNextRefusal status (next_step plan group member after rest))
      → TakesFrame frame (length frame - length rest) status old new
  frame-taken before after frame rest status old new was none is made took all refused =
      let front = frame_spelled took.messages in
      let long : length frame ≡ length front + length rest = ap length took.spelled ∙ length-append front rest in
      let count : length front ≡ length frame - length rest = omega (arith, long) in
      let taken = length frame - length rest in
      let left : drop taken frame ≡ rest = ap (drop taken) took.spelled ∙ drop_at front rest taken count in
      record {
        within = omega (arith, long);
        messages = took.messages;
        spelled = ap (take taken) took.spelled ∙ take_at front rest taken count;
        does = λ _. (
          ap (node_does (λ p g m node. in_turn p g m (from_node node) took.messages)) was
              ∙ ap (λ (r : NodeAnswer). Some (node_step plan group member r)) took.turns
              ∙ (λ i. Some (Ok (sym made i, sym is i))),
          none,
        );
        all = λ done. (let e : length rest ≡ 0 = ap length (all done) in omega (arith, e, long));
        refused = λ some few. (
            let r = refused some in
            subst (λ (v : View). IsRefusal status (with_value (next_in (drop taken frame)) (λ x. node_does (λ p g m node. reaction p g m node x.0) v))) (sym is)
            (subst (λ (bytes : List ℕ). IsRefusal status (next-with after (next_in bytes))) (sym left)
            (next-refused after status r.0 (next_in rest) r.1 r.2)));
        unchanged = λ much. absurd (status-few status (next_step plan group member after rest) refused much);
      }
