use Rattle.std.specs.Prelude.{ℕ, suc, true, not, ◌&&◌, ◌==◌, nat_lt, nat_le, List, [], ◌∷◌, ◌++◌, Option, Some, None, Result, Ok, Err, length, replicate, slice_index_or, slice_set}
use Rattle.volume_model.specs.Lists.{added, numbered, put, put_at, each_below}
use Rattle.volume_model.specs.Plan.{Plan, parent_of, epoch_of, is_named}
use Rattle.volume_model.specs.Message.{Place, Message}
use Rattle.volume_model.specs.Message.Message.{View, StepTo}
use Rattle.volume_model.specs.Node.{Node, NodeAnswer, born_node, reaction, hydrated, restarted, offered}
use Rattle.volume_model.specs.Client.{Client, ClientAnswer, first_writer, unborn}
use Rattle.volume_model.specs.ClientWriter.{Change, issued, resent, page_asked}
use Rattle.volume_model.specs.ClientRecovery.{cut_client, opened}
use Rattle.volume_model.specs.ClientMessages.{taken}
use Rattle.volume_model.specs.Refusal.{refuse_if}
use Rattle.volume_model.specs.declared.fault.Fault.{Fault}
use Rattle.volume_model.specs.declared.fault.Fault.TheVariants.{AllGrown, EpochsSpent, NoActor, NoGroup, NoMessage, NotInPlan, Superseded}

-- the last volume epoch assigned, and the present configuration of each group that has joined
pub record Authority : Type 0 where
  pub last_volume : ℕ
  pub configurations : List ℕ

-- the present configuration of a group
abbrev pub configuration_of : Authority → ℕ → ℕ
configuration_of authority group = slice_index_or authority.configurations group 0

-- the number of groups that have joined
abbrev pub groups_joined : Authority → ℕ
groups_joined authority = length authority.configurations

-- all actors, and all messages ever made, newest first. A node is identified by group and member, a client by its
-- volume epoch
pub record World : Type 0 where
  pub authority : Authority
  pub nodes : ℕ → ℕ → Node
  pub clients : ℕ → Client
  pub messages : List Message

-- an event. A lost message is one that is never delivered
pub data Event : Type 0 where
  Assign : Event
  Advance : (group configuration : ℕ) → Event
  Refresh : (volume : ℕ) → Event
  Grow : Event
  Issue : (volume : ℕ) → List Change → Event
  Take : (volume number : ℕ) → Event
  Cut : (volume : ℕ) → Event
  Open : (volume : ℕ) → Event
  Resend : (volume lsn : ℕ) → Event
  Read : (volume group block : ℕ) → Event
  Deliver : (group member number : ℕ) → Event
  Hydrate : (group member : ℕ) → Event
  Restart : (group member : ℕ) → Event
  Offer : (group member lsn : ℕ) → Event

-- the world before any event
abbrev pub opening : Plan → World
opening plan =
    record {
      authority = record { last_volume = 1; configurations = replicate plan.born 0 };
      nodes = born_node plan;
      clients = put (λ volume. unborn) 1 (first_writer plan);
      messages = [];
    }

-- the present place of a group
abbrev pub place_now : Plan → Authority → ℕ → Place
place_now plan authority group =
    record {
      configuration = configuration_of authority group;
      epoch = epoch_of plan group
          (configuration_of authority group);
    }

-- the places of all groups that have joined, in order
abbrev pub places_now : Plan → Authority → List Place
places_now plan authority = each_below (groups_joined authority) (λ group. true) (place_now plan authority)

-- the result of a step of the authority
pub record AuthorityStep : Type 0 where
  pub made : List Message
  pub authority : Authority

-- the authority's answer to Assign: it assigns the next volume epoch
abbrev pub assigned : Plan → Authority → Result AuthorityStep Fault
assigned plan authority =
    refuse_if (nat_le 4294967295 authority.last_volume) EpochsSpent (
    Ok (record {
      made = View (suc authority.last_volume) (places_now plan authority) ∷ [];
      authority = record authority { last_volume = suc authority.last_volume };
    }))

-- the step of a group to a configuration
abbrev pub advance_step : Plan → Authority → ℕ → ℕ → AuthorityStep
advance_step plan authority group c =
    let now = record authority { configurations = slice_set authority.configurations group c } in
    record { made = StepTo group (place_now plan now group) ∷ []; authority = now }

-- the authority's answer to Advance: a group steps to a child of its configuration
abbrev pub advanced : Plan → Authority → ℕ → ℕ → Result AuthorityStep Fault
advanced plan authority group c =
    refuse_if (not (nat_lt group (groups_joined authority))) NoGroup (
    refuse_if (not (nat_lt 0 c && (nat_lt c (plan.configurations group) && parent_of plan group c == configuration_of
    authority group))) NotInPlan (
    Ok (advance_step plan authority group c)))

-- the authority's answer to Refresh: a client gets the places again
abbrev pub refreshed : Plan → Authority → ℕ → Result AuthorityStep Fault
refreshed plan authority volume =
    refuse_if (not (volume == authority.last_volume)) Superseded (
    Ok (record { made = View volume (places_now plan authority) ∷ []; authority = authority }))

-- the authority's answer to Grow: the next group joins, at its root
abbrev pub grown : Plan → Authority → Result AuthorityStep Fault
grown plan authority =
    refuse_if (not (nat_lt (groups_joined authority) plan.groups)) AllGrown (
    Ok (record { made = []; authority = record authority { configurations = authority.configurations ++ 0 ∷ [] } }))

-- the result of a step: the messages that it makes, in order, and the new world
pub record Step : Type 0 where
  pub made : List Message
  pub world : World

-- a step of the authority, as a step of the world
abbrev pub of_authority : World → Result AuthorityStep Fault → Result Step Fault
of_authority world (Err number) = Err number
of_authority world (Ok step) =
    Ok (record {
      made = step.made;
      world = record world {
        authority = step.authority;
        messages = added step.made
            world.messages;
      };
    })

-- a step of a client, as a step of the world
abbrev pub of_client : World → ℕ → ClientAnswer → Result Step Fault
of_client world volume (Err number) = Err number
of_client world volume (Ok step) =
    Ok (record {
      made = step.made;
      world = record world {
        clients = put world.clients volume step.client;
        messages =
            added step.made world.messages;
      };
    })

-- a step of a node, as a step of the world
abbrev pub of_node : World → ℕ → ℕ → NodeAnswer → Result Step Fault
of_node world group member (Err number) = Err number
of_node world group member (Ok step) =
    Ok (record {
      made = step.made;
      world = record world {
        nodes = put_at world.nodes group member step.node;
        messages =
            added step.made world.messages;
      };
    })

-- a node's answer to a message that was looked up
abbrev pub deliver : Plan → ℕ → ℕ → Node → Option Message → NodeAnswer
deliver plan group member node None = Err NoMessage
deliver plan group member node (Some message) = reaction plan group member node message

-- a client's answer to a message that was looked up
abbrev pub take : Plan → ℕ → Client → Option Message → ClientAnswer
take plan volume client None = Err NoMessage
take plan volume client (Some message) = taken plan volume client message

-- refused if the group hasn't joined (the first joined ones have) or no configuration of it has the member
abbrev pub if_there : Plan → ℕ → ℕ → ℕ → NodeAnswer → NodeAnswer
if_there plan joined group member rest = refuse_if (not (nat_lt group joined && is_named plan group member)) NoActor
    rest

-- one event: its refusal, or the step
abbrev pub step : Plan → World → Event → Result Step Fault
step plan world Assign = of_authority world (assigned plan world.authority)
step plan world (Advance group c) = of_authority world (advanced plan world.authority group c)
step plan world (Refresh volume) = of_authority world (refreshed plan world.authority volume)
step plan world Grow = of_authority world (grown plan world.authority)
step plan world (Issue volume changes) = of_client world volume (issued plan volume (world.clients volume) changes)
step plan world (Take volume number) = of_client world volume (take plan volume (world.clients volume)
    (numbered world.messages number))
step plan world (Cut volume) = of_client world volume (cut_client plan volume (world.clients volume))
step plan world (Open volume) = of_client world volume (opened plan (world.clients volume))
step plan world (Resend volume lsn) = of_client world volume (resent volume (world.clients volume) lsn)
step plan world (Read volume group block) = of_client world volume (page_asked volume (world.clients volume) group
    block)
step plan world (Deliver group member number) =
    of_node world group member (if_there plan (groups_joined world.authority) group member
    (deliver plan group member (world.nodes group member) (numbered world.messages number)))
step plan world (Hydrate group member) = of_node world group member (if_there plan (groups_joined world.authority) group
    member (hydrated plan group member (world.nodes group member)))
step plan world (Restart group member) =
    of_node world group member (if_there plan (groups_joined world.authority) group member (Ok (record {
      made = [];
      node
          = restarted (world.nodes group member);
    })))
step plan world (Offer group member lsn) = of_node world group member (if_there plan (groups_joined world.authority)
    group member (offered group (world.nodes group member) lsn))

-- the world after a step; a refused event changes nothing
abbrev pub after_step : World → Result Step Fault → World
after_step world (Err number) = world
after_step world (Ok s) = s.world

-- the world after one event
abbrev pub after : Plan → World → Event → World
after plan world event = after_step world (step plan world event)

-- the world after a list of events
abbrev pub run : Plan → World → List Event → World
run plan world [] = world
run plan world (event ∷ events) = run plan (after plan world event) events

-- the result of an event: the number of messages that it made, or its refusal
abbrev pub event_result : Result Step Fault → Result ℕ Fault
event_result (Err number) = Err number
event_result (Ok s) = Ok (length s.made)

-- the result of each event
abbrev pub results : Plan → World → List Event → List (Result ℕ Fault)
results plan world [] = []
results plan world (event ∷ events) = event_result (step plan world event) ∷ results plan (after plan world event)
    events
