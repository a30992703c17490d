-- Handles that are filled.
use Rattle.std.proofs.Common.{◌≡◌, ◌≢◌, ◌<◌, ℕ, Bool, false, not, List, [], Option, Some, None, Result, Ok, Err, refl, sym, ap, ◌∙◌, subst, arith, inl, inr, ◌⊎◌, is_some, nat_le, option_map, true≢false}
use Rattle.std.proofs.lemmas.Bool.Decides.{nat_tests}
use Rattle.volume_model.specs.Common.{Fails, number_of, refuse_if, Plan}
use Rattle.volume_model.specs.Message as model
use Rattle.volume_model.specs.declared.fault.Fault.{Fault}
use Rattle.volume_model.specs.declared.fault.Fault.TheVariants.{NoMemory, NotOpen}
use Rattle.volume_c.specs.declared.actor.Held.{Held}
use Rattle.volume_model.specs.Client as client
use Rattle.wire.specs.declared.message.Message.{Message}
use Rattle.wire.specs.Common.{messages_of}
use Rattle.epochs.specs.declared.authority.Authority.{Authority}
use Rattle.epochs.specs.Authority.{authority_of, authority_plan}
use Rattle.segment_core.specs.declared.segment.Segment.{Segment}
use Rattle.segment_core.specs.Segment.{node_of, IsSegmentOf}
use Rattle.world.specs.declared.client.Client.{Client}
use Rattle.world.specs.Clients.{seen_client, IsClientOf}
use Rattle.volume_c.specs.declared.actor.Actor.TheVariants as actor
use Rattle.volume_c.specs.View.{View, ANode, AClient, AnAuthority, client_in, held_now, view_of, seen, unsent}
use Rattle.volume_c.specs.Calls.{Step, Value, IsRefusal, Refuses, Does, Makes, Reads, client_step, of_client}
use Rattle.volume_c.specs.Authorities.{authority_made}
use Rattle.volume_c.specs.Segments.{node_made}
use Rattle.volume_c.specs.Clients.{if_open, IsNoWriter}
use Rattle.volume_c.proofs.Statuses.{number-some, stays}

none-some : {X : Type 0} (x : X) → None ≡ Some x → ⊥
none-some {X} x is = true≢false (sym (ap (λ (o : Option X). is_some o) is))

-- memory may run out in any call
pub wants : {A : Type 0} (defined : Value A) (status : ℕ) → status ≡ 9 → IsRefusal status defined
wants None status is = is
wants (Some result) status is = (NoMemory, is, tt)

-- a handle that isn't filled, by a status of the library's own or for lack of memory
pub unmade : (defined : Step) (status : ℕ) (old : Option Held) → (status ≡ 90) ⊎ (status ≡ 9) → Makes defined status old old
unmade defined status old (inl much) = record {
  ok = λ none. absurd (omega (arith, none, much));
  unchanged = λ _. refl;
  refused = λ _ few. absurd (omega (arith, few, much));
}
unmade defined status old (inr nine) = record {
  ok = λ none. absurd (omega (arith, none, nine));
  unchanged = λ _. refl;
  refused = λ _ _. wants defined status nine;
}

-- a handle that isn't filled, by a refusal of the model
pub refused : (defined : Step) (inner : Result (List model.Message × View) Fault) (fault : Fault) (status : ℕ) (old : Option Held) → defined ≡ Some inner → status ≡ number_of fault → Fails fault inner → Makes defined status old old
refused defined inner fault status old is number fails = subst (λ (d : Step). Makes d status old old) (sym is) (record {
  ok = λ none. absurd (number-some fault (sym number ∙ none));
  unchanged = λ _. refl;
  refused = λ _ _. (fault, number, fails);
})

-- a handle that isn't live holds nothing
pub holds-none : (held : Option Held) (live : Bool) → live ≡ is_some held → live ≡ false → held ≡ None
holds-none None live is not = refl
holds-none (Some h) live is not = absurd (true≢false (sym is ∙ not))

-- a handle that is filled, if there is memory
pub made : (defined : Step) (status : ℕ) (old new : Option Held) (held : Held) (live : Bool) → live ≡ is_some old → live ≡ false → (status ≡ 0 → new ≡ Some held) → (status ≢ 0 → (status ≡ 9) × (new ≡ old)) → defined ≡ Some (Ok (held_now held))
    → Makes defined status old new
made defined status old new held live is not filled failed does = record {
  ok = λ none. (subst (λ (h : Option Held). defined ≡ Some (Ok (unsent h, seen h))) (sym (filled none)) does, holds-none old live is not);
  unchanged = λ some. (failed some).1;
  refused = λ some _. wants defined status (failed some).0;
}

abbrev done : List model.Message → View → Result (List model.Message × View) Fault
done made view = Ok (made, view)

-- the authority that is held
pub authority-held : (h : Held) (a : Authority) (plan : Plan) → h.actor ≡ actor.Authority a → unsent (Some h) ≡ [] → authority_plan a ≡ plan → authority_made plan (Ok (authority_of a)) ≡ Ok (held_now h)
authority-held h a plan is none of =
    let view : seen (Some h) ≡ AnAuthority plan (authority_of a) = ap view_of is ∙ ap (λ (p : Plan). AnAuthority p (authority_of a)) of in
    λ i. done (sym none i) (sym view i)

-- the segment that is held
pub segment-held : (h : Held) (s : Segment) (plan : Plan) (group member : ℕ) → h.actor ≡ actor.Segment s → unsent (Some h) ≡ [] → IsSegmentOf plan group member s → node_made plan group member (Ok (node_of s)) ≡ Ok (held_now h)
segment-held h s plan group member is none own =
    let own_view : view_of (actor.Segment s) ≡ ANode plan group member (node_of s) = λ i. ANode (own.plan_is i) (own.group_is i) (own.member_is i) (node_of s) in
    let view : seen (Some h) ≡ ANode plan group member (node_of s) = ap view_of is ∙ own_view in
    λ i. done (sym none i) (sym view i)

abbrev first-step : Plan → ℕ → Result client.Client Fault → Result (List model.Message × View) Fault
first-step plan volume (Err fault) = Err fault
first-step plan volume (Ok first) = done [] (AClient plan volume first)

-- the client that is held
pub client-held : (h : Held) (c : Client) (messages : List Message) (plan : Plan) (volume : ℕ) → h.actor ≡ actor.Client c → unsent (Some h) ≡ messages_of messages → IsClientOf plan volume c → client_step plan volume (Ok (record { made = messages_of messages; client = seen_client c })) ≡ Ok (held_now h)
client-held h c messages plan volume is sent own =
    let own_view : view_of (actor.Client c) ≡ AClient plan volume (seen_client c) = λ i. AClient (own.plan_is i) (own.volume_is i) (seen_client c) in
    let view : seen (Some h) ≡ AClient plan volume (seen_client c) = ap view_of is ∙ own_view in
    λ i. done (sym sent i) (sym view i)

-- the writer that a volume is born with
abbrev answer : client.Client → Result client.Client Fault
answer now = Ok now

abbrev step-of : Result (List model.Message × View) Fault → Step
step-of result = Some result

pub first-made : (plan : Plan) (volume : ℕ) (first : client.Client) (c : Client) → answer first ≡ answer (seen_client c) → step-of (done [] (AClient plan volume first)) ≡ step-of (done [] (AClient plan volume (seen_client c)))
first-made plan volume first c is = ap (λ (r : Result client.Client Fault). Some (first-step plan volume r)) is

-- a client that is held is read
pub client-read : {A : Type 0} (give : client.Client → Result A Fault) (view : View) (c : client.Client) → client_in view ≡ Some c → of_client (λ plan volume now. give now) view ≡ Some (give c)
client-read give (AClient plan volume now) c is = ap (λ (x : Option client.Client). option_map give x) is
client-read give view c is = absurd (none-some c is)

-- a place that is within
pub not-le : (n m : ℕ) → n < m → nat_le m n ≡ false
not-le n m l = grind (arith, nat_tests)

-- a call that reads and gives its value
pub gave : {A : Type 0} (defined : Value A) (value : A) (held : Option Held) → defined ≡ Some (Ok value) → Reads defined value 0 held held
gave defined value held is = record { ok = λ _. is; refused = λ some _. absurd (some refl); same = (refl, refl) }

no-writer-some : (view : View) (status : ℕ) → IsNoWriter status view → status ≢ 0
no-writer-some (AClient plan volume now) status is none = let n : status ≡ 70 = is.0 in absurd (omega (arith, n, none))
no-writer-some view status is none = absurd (omega (arith, is, none))

no-writer : {A : Type 0} (give : client.Client → Result A Fault) (view : View) (status : ℕ) → IsNoWriter status view → Refuses (of_client (λ plan volume now. if_open now (give now)) view) status
no-writer give (AClient plan volume now) status is some few = (NotOpen, is.0, ap (λ (b : Bool). refuse_if (not b) NotOpen (give now)) is.1)
no-writer give view status is some few = absurd (omega (arith, is, few))

-- a call that reads where no writer is held
pub gave-none : {A : Type 0} (give : client.Client → Result A Fault) (view : View) (value : A) (status : ℕ) (held : Option Held) → IsNoWriter status view
    → Reads (of_client (λ plan volume now. if_open now (give now)) view) value status held held
gave-none give view value status held is = record {
  ok = λ none. absurd (no-writer-some view status is none);
  refused = no-writer give view status is;
  same = (refl, refl);
}

-- changes that C's structs aren't, or for which there is no memory
pub not-changed : (defined : Step) (status : ℕ) (held : Option Held) → (status ≡ 94) ⊎ (status ≡ 9) → Does defined status held held
not-changed defined status held (inl is) = stays defined status held (omega (arith, is))
not-changed defined status held (inr is) = record {
  ok = λ none. absurd (omega (arith, none, is));
  unchanged = λ _. (refl, refl);
  refused = λ _ _. wants defined status is;
}
