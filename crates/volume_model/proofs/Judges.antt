-- A refusal that was noted stays true of the journal as it grows.
use Rattle.std.proofs.Common.{◌≡◌, ◌≢◌, ℕ, ◌≤◌, List, ◌++◌, length, take, refl, sym, ap, ◌∙◌, subst, arith}
use mathlib.Core.List.{IsPrefix}
use Rattle.volume_model.specs.declared.fault.Fault.{Fault}
use Rattle.volume_model.specs.declared.fault.Fault.TheVariants.{Short, BadField, Trailing, NoMemory, BadCount, TooDeep, NotAMember, Malformed, NoSuchItem, NotDead, NoClash, NotAll, TooFewPicked, BadPair, CountTooSmall, BranchCount, BadParent, MemberReused, NoCertificate, Certificate, OverLimit, Superseded, NotInPlan, NoGroup, EpochsSpent, AllGrown, StaleVolume, StaleMember, AheadMember, NotInstalled, NotWhole, Full, AlreadyWhole, NotEnough, NoRecord, BadPiece, TailSegment, PointAhead, SeriesSpent, NotOpen, LimitReached, BadTransaction, LsnSpent, NotReady, AlreadyDone, NoLogRecord, NotJoined, NoMessage, NotAddressed, NoActor, NoSlot, JournalFull}
use Rattle.volume_model.specs.Common.{Plan, World, Event, step, groups_joined, Actor, actor_of, Agree, Keeps, is_joined, JoinedAlike, TheAuthority, refusal, world_at, last_of, placed, judged, wanted, Refusal, IsRefused, Exact, IsNoted}
use Rattle.volume_model.specs.Actor.Actor.{Client, Node}
use Rattle.volume_model.specs.Journal.{Entry}
use Rattle.volume_model.specs.Judging.{found_in}
use Rattle.volume_model.proofs.Fronts.{prefix_length}
use Rattle.volume_model.proofs.ListFacts.{beginning-refl}
use Rattle.volume_model.proofs.Frames.{put_here, put_at_here, agree-sym, agree-trans}
use Rattle.volume_model.proofs.Worlds.{take_prefix, take_begins, length-take_within, agree_at_last, keeps_at}
use Rattle.volume_model.proofs.Alike.{refusal_alike}
use Rattle.std.proofs.lemmas.Grind.{common_steps}
use Rattle.std.proofs.Common.{rules}

-- the actor is placed as it is in w
pub placed-agree : (actor : Actor) (w v : World) → Agree actor w (placed actor w v)
placed-agree TheAuthority w v = refl
placed-agree (Client c) w v = sym (put_here v.clients c (w.clients c))
placed-agree (Node g m) w v = sym (put_at_here v.nodes g m (w.nodes g m))

-- the messages stay as they are in v
pub placed-messages : (actor : Actor) (w v : World) → (placed actor w v).messages ≡ v.messages
placed-messages TheAuthority w v = refl
placed-messages (Client c) w v = refl
placed-messages (Node g m) w v = refl

placed-keeps : (actor : Actor) (w u v : World) → Keeps u v → Keeps u (placed actor w v)
placed-keeps actor w u v k = (k.0, k.1 ∙ sym (placed-messages actor w v))

placed-keeps_both : (actor : Actor) (w u v : World) → Keeps u v → Keeps (placed actor w u) (placed actor w v)
placed-keeps_both actor w u v k = (k.0, ap (λ l. k.0 ++ l) (placed-messages actor w u) ∙ k.1 ∙ sym (placed-messages actor w v))

-- once it is placed a node is there or not, whatever the rest is
placed-alike : (actor : Actor) (w u v : World) → is_joined (groups_joined (placed actor w u).authority) actor ≡ is_joined (groups_joined (placed actor w v).authority) actor
placed-alike TheAuthority w u v = refl
placed-alike (Client c) w u v = refl
placed-alike (Node g m) w u v = refl

-- and is there as it is in v, where it was so in w
placed-joined : (actor : Actor) (w v : World) → is_joined (groups_joined w.authority) actor ≡ is_joined (groups_joined v.authority) actor → is_joined (groups_joined v.authority) actor ≡ is_joined (groups_joined (placed actor w v).authority) actor
placed-joined TheAuthority w v h = refl
placed-joined (Client c) w v h = refl
placed-joined (Node g m) w v h = sym h

module _ (plan : Plan) where
  -- the actor of an event is the same in both worlds, and there in both or in neither
  abbrev IsOne : Event → World → World → Type 0
  IsOne event w v = Agree (actor_of event) w v × JoinedAlike event w v

  -- a refusal with the actor placed stays, when the rest has gone on
  pub placed_later : (w u v : World) (e : Event) (number : ℕ) → number ≢ 80 → Keeps u v → refusal (step plan (placed (actor_of e) w u) e) ≡ number → refusal (step plan (placed (actor_of e) w v) e) ≡ number
  placed_later w u v e number other keeps h =
      refusal_alike plan (placed (actor_of e) w u) (placed (actor_of e) w v) e number other
      (agree-trans (actor_of e) (placed (actor_of e) w u) w (placed (actor_of e) w v) (agree-sym (actor_of e) w (placed (actor_of e) w u) (placed-agree (actor_of e) w u)) (placed-agree (actor_of e) w v))
      (placed-alike (actor_of e) w u v)
      (placed-keeps_both (actor_of e) w u v keeps) h

  own_longer : (number : ℕ) (es fs : List Entry) (event : Event) (code : ℕ) → code ≢ 80 → IsPrefix es fs → number ≤ length es
      → refusal (step plan (judged plan es number event) event) ≡ code → refusal (step plan (judged plan fs number event) event) ≡ code
  own_longer number es fs event code other p le h =
      placed_later (world_at plan (take number fs)) (world_at plan es) (world_at plan fs) event code other (keeps_at plan es fs p)
      (subst (λ l. refusal (step plan (placed (actor_of event) (world_at plan l) (world_at plan es)) event) ≡ code) (take_prefix es fs number p le) h)

  own_noted : (number : ℕ) (es : List Entry) (event : Event) (code : ℕ) → code ≢ 80 → IsOne event (world_at plan (take number es)) (world_at plan es)
      → refusal (step plan (world_at plan es) event) ≡ code → refusal (step plan (judged plan es number event) event) ≡ code
  own_noted number es event code other agree h = search (rules, refusal_alike, agree-trans, agree-sym, placed-agree, placed-joined, placed-keeps, beginning-refl)

  last_agrees : (actor : Actor) (w v : World) → actor ≡ TheAuthority → Agree actor w v → w.authority.last_volume ≡ v.authority.last_volume
  last_agrees actor w v is h = let a : Agree TheAuthority w v = subst (λ x. Agree x w v) is h in ap (λ x. x.last_volume) a

  -- the refusal stays true of a longer journal
  result_longer : (slots cells number : ℕ) (es fs : List Entry) (event : Event) (fault : Fault) → IsPrefix es fs → length fs ≤ cells → number ≤ length es
      → found_in plan es number event fault ≡ wanted slots cells fault → found_in plan fs number event fault ≡ wanted slots cells fault
  result_longer slots cells number es fs event Short p room le h = own_longer number es fs event 1 (λ (e : 1 ≡ 80). omega (arith, e)) p le h
  result_longer slots cells number es fs event BadField p room le h = own_longer number es fs event 2 (λ (e : 2 ≡ 80). omega (arith, e)) p le h
  result_longer slots cells number es fs event Trailing p room le h = own_longer number es fs event 3 (λ (e : 3 ≡ 80). omega (arith, e)) p le h
  result_longer slots cells number es fs event NoMemory p room le h = h
  result_longer slots cells number es fs event BadCount p room le h = own_longer number es fs event 10 (λ (e : 10 ≡ 80). omega (arith, e)) p le h
  result_longer slots cells number es fs event TooDeep p room le h = own_longer number es fs event 11 (λ (e : 11 ≡ 80). omega (arith, e)) p le h
  result_longer slots cells number es fs event NotAMember p room le h = own_longer number es fs event 12 (λ (e : 12 ≡ 80). omega (arith, e)) p le h
  result_longer slots cells number es fs event Malformed p room le h = own_longer number es fs event 13 (λ (e : 13 ≡ 80). omega (arith, e)) p le h
  result_longer slots cells number es fs event NoSuchItem p room le h = own_longer number es fs event 20 (λ (e : 20 ≡ 80). omega (arith, e)) p le h
  result_longer slots cells number es fs event NotDead p room le h = own_longer number es fs event 21 (λ (e : 21 ≡ 80). omega (arith, e)) p le h
  result_longer slots cells number es fs event NoClash p room le h = own_longer number es fs event 22 (λ (e : 22 ≡ 80). omega (arith, e)) p le h
  result_longer slots cells number es fs event NotAll p room le h = own_longer number es fs event 23 (λ (e : 23 ≡ 80). omega (arith, e)) p le h
  result_longer slots cells number es fs event TooFewPicked p room le h = own_longer number es fs event 24 (λ (e : 24 ≡ 80). omega (arith, e)) p le h
  result_longer slots cells number es fs event BadPair p room le h = own_longer number es fs event 25 (λ (e : 25 ≡ 80). omega (arith, e)) p le h
  result_longer slots cells number es fs event CountTooSmall p room le h = own_longer number es fs event 26 (λ (e : 26 ≡ 80). omega (arith, e)) p le h
  result_longer slots cells number es fs event BranchCount p room le h = own_longer number es fs event 27 (λ (e : 27 ≡ 80). omega (arith, e)) p le h
  result_longer slots cells number es fs event BadParent p room le h = own_longer number es fs event 30 (λ (e : 30 ≡ 80). omega (arith, e)) p le h
  result_longer slots cells number es fs event MemberReused p room le h = own_longer number es fs event 31 (λ (e : 31 ≡ 80). omega (arith, e)) p le h
  result_longer slots cells number es fs event NoCertificate p room le h = own_longer number es fs event 32 (λ (e : 32 ≡ 80). omega (arith, e)) p le h
  result_longer slots cells number es fs event Certificate p room le h = own_longer number es fs event 33 (λ (e : 33 ≡ 80). omega (arith, e)) p le h
  result_longer slots cells number es fs event OverLimit p room le h = own_longer number es fs event 34 (λ (e : 34 ≡ 80). omega (arith, e)) p le h
  result_longer slots cells number es fs event Superseded p room le h = own_longer number es fs event 40 (λ (e : 40 ≡ 80). omega (arith, e)) p le h
  result_longer slots cells number es fs event NotInPlan p room le h = own_longer number es fs event 41 (λ (e : 41 ≡ 80). omega (arith, e)) p le h
  result_longer slots cells number es fs event NoGroup p room le h = own_longer number es fs event 42 (λ (e : 42 ≡ 80). omega (arith, e)) p le h
  result_longer slots cells number es fs event EpochsSpent p room le h = own_longer number es fs event 43 (λ (e : 43 ≡ 80). omega (arith, e)) p le h
  result_longer slots cells number es fs event AllGrown p room le h = own_longer number es fs event 44 (λ (e : 44 ≡ 80). omega (arith, e)) p le h
  result_longer slots cells number es fs event StaleVolume p room le h = own_longer number es fs event 50 (λ (e : 50 ≡ 80). omega (arith, e)) p le h
  result_longer slots cells number es fs event StaleMember p room le h = own_longer number es fs event 51 (λ (e : 51 ≡ 80). omega (arith, e)) p le h
  result_longer slots cells number es fs event AheadMember p room le h = own_longer number es fs event 52 (λ (e : 52 ≡ 80). omega (arith, e)) p le h
  result_longer slots cells number es fs event NotInstalled p room le h = own_longer number es fs event 53 (λ (e : 53 ≡ 80). omega (arith, e)) p le h
  result_longer slots cells number es fs event NotWhole p room le h = own_longer number es fs event 54 (λ (e : 54 ≡ 80). omega (arith, e)) p le h
  result_longer slots cells number es fs event Full p room le h = own_longer number es fs event 55 (λ (e : 55 ≡ 80). omega (arith, e)) p le h
  result_longer slots cells number es fs event AlreadyWhole p room le h = own_longer number es fs event 56 (λ (e : 56 ≡ 80). omega (arith, e)) p le h
  result_longer slots cells number es fs event NotEnough p room le h = own_longer number es fs event 57 (λ (e : 57 ≡ 80). omega (arith, e)) p le h
  result_longer slots cells number es fs event NoRecord p room le h = own_longer number es fs event 58 (λ (e : 58 ≡ 80). omega (arith, e)) p le h
  result_longer slots cells number es fs event BadPiece p room le h = own_longer number es fs event 59 (λ (e : 59 ≡ 80). omega (arith, e)) p le h
  result_longer slots cells number es fs event TailSegment p room le h = own_longer number es fs event 60 (λ (e : 60 ≡ 80). omega (arith, e)) p le h
  result_longer slots cells number es fs event PointAhead p room le h = own_longer number es fs event 61 (λ (e : 61 ≡ 80). omega (arith, e)) p le h
  result_longer slots cells number es fs event SeriesSpent p room le h = own_longer number es fs event 62 (λ (e : 62 ≡ 80). omega (arith, e)) p le h
  result_longer slots cells number es fs event NotOpen p room le h = own_longer number es fs event 70 (λ (e : 70 ≡ 80). omega (arith, e)) p le h
  result_longer slots cells number es fs event LimitReached p room le h = own_longer number es fs event 71 (λ (e : 71 ≡ 80). omega (arith, e)) p le h
  result_longer slots cells number es fs event BadTransaction p room le h = own_longer number es fs event 72 (λ (e : 72 ≡ 80). omega (arith, e)) p le h
  result_longer slots cells number es fs event LsnSpent p room le h = own_longer number es fs event 73 (λ (e : 73 ≡ 80). omega (arith, e)) p le h
  result_longer slots cells number es fs event NotReady p room le h = own_longer number es fs event 74 (λ (e : 74 ≡ 80). omega (arith, e)) p le h
  result_longer slots cells number es fs event AlreadyDone p room le h = own_longer number es fs event 75 (λ (e : 75 ≡ 80). omega (arith, e)) p le h
  result_longer slots cells number es fs event NoLogRecord p room le h = own_longer number es fs event 76 (λ (e : 76 ≡ 80). omega (arith, e)) p le h
  result_longer slots cells number es fs event NotJoined p room le h = own_longer number es fs event 77 (λ (e : 77 ≡ 80). omega (arith, e)) p le h
  result_longer slots cells number es fs event NoMessage p room le h = h
  result_longer slots cells number es fs event NotAddressed p room le h = own_longer number es fs event 81 (λ (e : 81 ≡ 80). omega (arith, e)) p le h
  result_longer slots cells number es fs event NoActor p room le h = own_longer number es fs event 82 (λ (e : 82 ≡ 80). omega (arith, e)) p le h
  result_longer slots cells number es fs event NoSlot p room le h = ap (λ l. (world_at plan l).authority.last_volume) (sym (take_prefix es fs number p le)) ∙ h
  result_longer slots cells number es fs event JournalFull p room le h = let l = prefix_length es fs p in omega (arith, l, h, room)

  pub refused_longer : (slots cells : ℕ) (es fs : List Entry) (n : Refusal) → IsPrefix es fs → length fs ≤ cells → IsRefused plan slots cells es n → IsRefused plan slots cells fs n
  refused_longer slots cells es fs n p room h = grind (arith, common_steps, prefix_length, result_longer)

  result_now : (slots cells number : ℕ) (es : List Entry) (event : Event) (fault : Fault) → IsNoted fault → IsOne event (world_at plan (take number es)) (world_at plan es)
      → Exact plan slots cells es event fault → found_in plan es number event fault ≡ wanted slots cells fault
  result_now slots cells number es event Short is agree h = own_noted number es event 1 (λ (e : 1 ≡ 80). omega (arith, e)) agree h
  result_now slots cells number es event BadField is agree h = own_noted number es event 2 (λ (e : 2 ≡ 80). omega (arith, e)) agree h
  result_now slots cells number es event Trailing is agree h = own_noted number es event 3 (λ (e : 3 ≡ 80). omega (arith, e)) agree h
  result_now slots cells number es event NoMemory is agree h = absurd is
  result_now slots cells number es event BadCount is agree h = own_noted number es event 10 (λ (e : 10 ≡ 80). omega (arith, e)) agree h
  result_now slots cells number es event TooDeep is agree h = own_noted number es event 11 (λ (e : 11 ≡ 80). omega (arith, e)) agree h
  result_now slots cells number es event NotAMember is agree h = own_noted number es event 12 (λ (e : 12 ≡ 80). omega (arith, e)) agree h
  result_now slots cells number es event Malformed is agree h = own_noted number es event 13 (λ (e : 13 ≡ 80). omega (arith, e)) agree h
  result_now slots cells number es event NoSuchItem is agree h = own_noted number es event 20 (λ (e : 20 ≡ 80). omega (arith, e)) agree h
  result_now slots cells number es event NotDead is agree h = own_noted number es event 21 (λ (e : 21 ≡ 80). omega (arith, e)) agree h
  result_now slots cells number es event NoClash is agree h = own_noted number es event 22 (λ (e : 22 ≡ 80). omega (arith, e)) agree h
  result_now slots cells number es event NotAll is agree h = own_noted number es event 23 (λ (e : 23 ≡ 80). omega (arith, e)) agree h
  result_now slots cells number es event TooFewPicked is agree h = own_noted number es event 24 (λ (e : 24 ≡ 80). omega (arith, e)) agree h
  result_now slots cells number es event BadPair is agree h = own_noted number es event 25 (λ (e : 25 ≡ 80). omega (arith, e)) agree h
  result_now slots cells number es event CountTooSmall is agree h = own_noted number es event 26 (λ (e : 26 ≡ 80). omega (arith, e)) agree h
  result_now slots cells number es event BranchCount is agree h = own_noted number es event 27 (λ (e : 27 ≡ 80). omega (arith, e)) agree h
  result_now slots cells number es event BadParent is agree h = own_noted number es event 30 (λ (e : 30 ≡ 80). omega (arith, e)) agree h
  result_now slots cells number es event MemberReused is agree h = own_noted number es event 31 (λ (e : 31 ≡ 80). omega (arith, e)) agree h
  result_now slots cells number es event NoCertificate is agree h = own_noted number es event 32 (λ (e : 32 ≡ 80). omega (arith, e)) agree h
  result_now slots cells number es event Certificate is agree h = own_noted number es event 33 (λ (e : 33 ≡ 80). omega (arith, e)) agree h
  result_now slots cells number es event OverLimit is agree h = own_noted number es event 34 (λ (e : 34 ≡ 80). omega (arith, e)) agree h
  result_now slots cells number es event Superseded is agree h = own_noted number es event 40 (λ (e : 40 ≡ 80). omega (arith, e)) agree h
  result_now slots cells number es event NotInPlan is agree h = own_noted number es event 41 (λ (e : 41 ≡ 80). omega (arith, e)) agree h
  result_now slots cells number es event NoGroup is agree h = own_noted number es event 42 (λ (e : 42 ≡ 80). omega (arith, e)) agree h
  result_now slots cells number es event EpochsSpent is agree h = own_noted number es event 43 (λ (e : 43 ≡ 80). omega (arith, e)) agree h
  result_now slots cells number es event AllGrown is agree h = own_noted number es event 44 (λ (e : 44 ≡ 80). omega (arith, e)) agree h
  result_now slots cells number es event StaleVolume is agree h = own_noted number es event 50 (λ (e : 50 ≡ 80). omega (arith, e)) agree h
  result_now slots cells number es event StaleMember is agree h = own_noted number es event 51 (λ (e : 51 ≡ 80). omega (arith, e)) agree h
  result_now slots cells number es event AheadMember is agree h = own_noted number es event 52 (λ (e : 52 ≡ 80). omega (arith, e)) agree h
  result_now slots cells number es event NotInstalled is agree h = own_noted number es event 53 (λ (e : 53 ≡ 80). omega (arith, e)) agree h
  result_now slots cells number es event NotWhole is agree h = own_noted number es event 54 (λ (e : 54 ≡ 80). omega (arith, e)) agree h
  result_now slots cells number es event Full is agree h = own_noted number es event 55 (λ (e : 55 ≡ 80). omega (arith, e)) agree h
  result_now slots cells number es event AlreadyWhole is agree h = own_noted number es event 56 (λ (e : 56 ≡ 80). omega (arith, e)) agree h
  result_now slots cells number es event NotEnough is agree h = own_noted number es event 57 (λ (e : 57 ≡ 80). omega (arith, e)) agree h
  result_now slots cells number es event NoRecord is agree h = own_noted number es event 58 (λ (e : 58 ≡ 80). omega (arith, e)) agree h
  result_now slots cells number es event BadPiece is agree h = own_noted number es event 59 (λ (e : 59 ≡ 80). omega (arith, e)) agree h
  result_now slots cells number es event TailSegment is agree h = own_noted number es event 60 (λ (e : 60 ≡ 80). omega (arith, e)) agree h
  result_now slots cells number es event PointAhead is agree h = own_noted number es event 61 (λ (e : 61 ≡ 80). omega (arith, e)) agree h
  result_now slots cells number es event SeriesSpent is agree h = own_noted number es event 62 (λ (e : 62 ≡ 80). omega (arith, e)) agree h
  result_now slots cells number es event NotOpen is agree h = own_noted number es event 70 (λ (e : 70 ≡ 80). omega (arith, e)) agree h
  result_now slots cells number es event LimitReached is agree h = own_noted number es event 71 (λ (e : 71 ≡ 80). omega (arith, e)) agree h
  result_now slots cells number es event BadTransaction is agree h = own_noted number es event 72 (λ (e : 72 ≡ 80). omega (arith, e)) agree h
  result_now slots cells number es event LsnSpent is agree h = own_noted number es event 73 (λ (e : 73 ≡ 80). omega (arith, e)) agree h
  result_now slots cells number es event NotReady is agree h = own_noted number es event 74 (λ (e : 74 ≡ 80). omega (arith, e)) agree h
  result_now slots cells number es event AlreadyDone is agree h = own_noted number es event 75 (λ (e : 75 ≡ 80). omega (arith, e)) agree h
  result_now slots cells number es event NoLogRecord is agree h = own_noted number es event 76 (λ (e : 76 ≡ 80). omega (arith, e)) agree h
  result_now slots cells number es event NotJoined is agree h = own_noted number es event 77 (λ (e : 77 ≡ 80). omega (arith, e)) agree h
  result_now slots cells number es event NoMessage is agree h = absurd is
  result_now slots cells number es event NotAddressed is agree h = own_noted number es event 81 (λ (e : 81 ≡ 80). omega (arith, e)) agree h
  result_now slots cells number es event NoActor is agree h = own_noted number es event 82 (λ (e : 82 ≡ 80). omega (arith, e)) agree h
  result_now slots cells number es event NoSlot is agree h = last_agrees (actor_of event) (world_at plan (take number es)) (world_at plan es) (ap actor_of h.0) agree.0 ∙ h.2
  result_now slots cells number es event JournalFull is agree h = h.1

  -- what the model refuses now may be noted
  pub noted : (slots cells number : ℕ) (es : List Entry) (event : Event) (fault : Fault) → IsNoted fault → number ≤ length es → IsOne event (world_at plan (take number es)) (world_at plan es)
      → Exact plan slots cells es event fault → IsRefused plan slots cells es (record { event = event; fault = fault; number = number })
  noted slots cells number es event fault is le agree h = record { within = le; judged_so = result_now slots cells number es event fault is agree h }

  -- by the actor's last number alone
  pub noted_at_last : (slots cells number : ℕ) (es : List Entry) (event : Event) (fault : Fault) → IsNoted fault → number ≤ length es → last_of (actor_of event) es ≤ number
      → JoinedAlike event (world_at plan (take number es)) (world_at plan es) → Exact plan slots cells es event fault → IsRefused plan slots cells es (record { event = event; fault = fault; number = number })
  noted_at_last slots cells number es event fault is le last there h = search (rules, length-take_within, noted, agree_at_last, take_begins)
