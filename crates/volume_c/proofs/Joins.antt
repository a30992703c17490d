-- Joined answers leave a client as the answers do that they are joined from.
use Rattle.std.proofs.Common.{◌≡◌, ℕ, ◌≤◌, true, nat_le, eqb, List, [], ◌∷◌, ◌++◌, Ok, Err, refl, sym, ap, ◌∙◌, append_assoc, inl, inr, append-nil}
use Rattle.std.proofs.lemmas.Bool.{cases_Bool, and_parts, eqb-true, leb-true}
use Rattle.volume_model.specs.Common.{◌>>=◌, Plan, Label, Message, Ack, NodeStep, NodeAnswer, reaction, taken}
use Rattle.volume_model.specs.Client.{Client}
use Rattle.volume_c.specs.Joined.{covers, from_node, in_turn, is_covered, joined}
use Rattle.volume_c.specs.Replay.{answers_and, answers_in_turn, client_after, client_or, LastAckSuffices}
use Rattle.volume_c.proofs.AcksLast.{last_suffices}

-- the one is an acknowledgement that says what the other says
record AreAcks (m x : Message) : Type 0 where
  group : ℕ
  label : Label
  from : ℕ
  lower : ℕ
  upper : ℕ
  later : m ≡ Ack group label from upper
  earlier : x ≡ Ack group label from lower
  rises : lower ≤ upper

acks_of : (group : ℕ) (label : Label) (from scl : ℕ) (x : Message) → is_covered group label from scl x ≡ true → AreAcks (Ack group label from scl) x
acks_of group label from scl (Ack to of sender reached) h =
    let p0 = and_parts (eqb to group) _ h in
    let p1 = and_parts (eqb of.volume label.volume) _ p0.1 in
    let p2 = and_parts (eqb of.member label.member) _ p1.1 in
    let p3 = and_parts (eqb sender from) (nat_le reached scl) p2.1 in
    let g : to ≡ group = eqb-true to group p0.0 in
    let v : of.volume ≡ label.volume = eqb-true of.volume label.volume p1.0 in
    let e : of.member ≡ label.member = eqb-true of.member label.member p2.0 in
    let s : sender ≡ from = eqb-true sender from p3.0 in
    record {
      group = group;
      label = label;
      from = from;
      lower = reached;
      upper = scl;
      later = refl;
      earlier = λ i. Ack (g i) (record { volume = v i; member = e i }) (s i) reached;
      rises = leb-true reached scl p3.1;
    }
acks_of group label from scl m h = absurd cc

are_acks : (m x : Message) → covers m x ≡ true → AreAcks m x
are_acks (Ack group label from scl) x h = acks_of group label from scl x h
are_acks m x h = absurd cc

module _ (plan : Plan) (volume : ℕ) where
  -- one message after another
  after-append : (client : Client) (xs ys : List Message) → client_after plan volume client (xs ++ ys) ≡ client_after plan volume (client_after plan volume client xs) ys
  after-append client [] ys = refl
  after-append client (x ∷ xs) ys = after-append (client_or client (taken plan volume client x)) xs ys

  covered : (client : Client) (m x : Message) → covers m x ≡ true → client_after plan volume client (m ∷ []) ≡ client_after plan volume client (x ∷ m ∷ [])
  covered client m x h =
      let a = are_acks m x h in
      (λ i. client_after plan volume client (a.later i ∷ []))
      ∙ sym (last_suffices plan a.group a.label a.from a.lower a.upper a.rises volume client)
      ∙ (λ i. client_after plan volume client (sym a.earlier i ∷ sym a.later i ∷ []))

  joined-after : (client : Client) (ws ms : List Message) → client_after plan volume client (joined ws ms) ≡ client_after plan volume client (ws ++ ms)
  joined-after client [] [] = refl
  joined-after client (x ∷ []) [] = refl
  joined-after client (x ∷ y ∷ rest) [] = ap (client_after plan volume client) (sym (append-nil (x ∷ y ∷ rest)))
  joined-after client [] (m ∷ ms) = refl
  joined-after client (x ∷ []) (m ∷ ms) =
      elim (cases_Bool (covers m x)) [
        | inl e ↦ rw e (ap (λ (c : Client). client_after plan volume c ms) (covered client m x e))
        | inr e ↦ rw e refl
      ]
  joined-after client (x ∷ y ∷ rest) (m ∷ ms) = joined-after (client_or client (taken plan volume client x)) (y ∷ rest) (m ∷ ms)

abbrev done : NodeStep → NodeAnswer
done step = Ok step

done-is : (a b : NodeStep) → done a ≡ done b → a ≡ b
done-is a b e = cc

module _ (plan : Plan) (group member volume : ℕ) (client : Client) (after : NodeStep) where
  abbrev leaves : List Message → Client
  leaves ms = client_after plan volume client ms

  abbrev TurnsTo : NodeStep → List Message → Type 0
  TurnsTo before ms = in_turn plan group member before ms ≡ Ok after → leaves after.made ≡ leaves (before.made ++ answers_in_turn plan group member before.node ms)

  turn : (before : NodeStep) (ms : List Message) → ((next : NodeStep) → TurnsTo next ms) → (r : NodeAnswer)
      → ((r >>= λ step. Ok (record { made = joined before.made step.made; node = step.node })) >>= λ step. in_turn plan group member step ms) ≡ Ok after
      → leaves after.made ≡ leaves (before.made ++ answers_and r (λ step. answers_in_turn plan group member step.node ms))
  turn before ms later (Err fault) e = absurd cc
  turn before ms later (Ok step) e =
      let rest = answers_in_turn plan group member step.node ms in
      later (record { made = joined before.made step.made; node = step.node }) e
      ∙ after-append plan volume client (joined before.made step.made) rest
      ∙ ap (λ (c : Client). client_after plan volume c rest) (joined-after plan volume client before.made step.made)
      ∙ sym (after-append plan volume client (before.made ++ step.made) rest)
      ∙ ap leaves (append_assoc before.made step.made rest)

  turns : (ms : List Message) (before : NodeStep) → TurnsTo before ms
  turns [] before e = ap (λ (s : NodeStep). leaves s.made) (sym (done-is before after e)) ∙ ap leaves (sym (append-nil before.made))
  turns (m ∷ ms) before e = turn before ms (turns ms) (reaction plan group member before.node m) e

pub last_ack : LastAckSuffices
last_ack = record {
  last = λ plan volume client group label from lower upper le. last_suffices plan group label from lower upper le volume client;
  joined_answers = λ plan volume client waiting answers. joined-after plan volume client waiting answers;
  frames = λ plan group member node ms after e volume client. turns plan group member volume client after ms (from_node node) e;
}
