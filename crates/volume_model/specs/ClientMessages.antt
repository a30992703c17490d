-- What a client does with a message.
use Rattle.std.specs.Prelude.{ℕ, Bool, false, not, ◌&&◌, ◌==◌, nat_lt, nat_le, if◌then◌else◌, List, [], ◌∷◌, Ok, Err, length, slice_set}
use Rattle.volume_model.specs.Lists.{every_below}
use Rattle.volume_model.specs.Plan.{Plan, is_configuration}
use Rattle.volume_model.specs.Message.{Label, Place, Message, place_in}
use Rattle.volume_model.specs.Message.Message.{View, StepTo, Fence, Report, Install, Write, Gossip, Ack, CopyAsk, CopyReport, PageAsk, Page}
use Rattle.volume_model.specs.Node.{in_group}
use Rattle.volume_model.specs.Refusal.{refuse_if}
use Rattle.volume_model.specs.declared.fault.Fault.TheVariants.{NotAddressed, NotInPlan}
use Rattle.volume_model.specs.Client.{Stage, has_cut, ClientGroup, no_group, group_of, place_of, Client, ClientStep, ClientAnswer, stays, if_born}
use Rattle.volume_model.specs.Client.Stage.{Unborn, Reading, Installing, Writing}
use Rattle.volume_model.specs.ClientPoints.{with_count, raised, groups_now}
use Rattle.volume_model.specs.ClientRecovery.{fences, installs, born_client, report_taken}

-- the second place is of a later membership epoch than the first
abbrev pub is_later : Place → Place → Bool
is_later old new = nat_lt old.epoch new.epoch

-- whether a group's new place is of a later epoch
abbrev pub later_in : (ℕ → Place) → (ℕ → Place) → ℕ → Bool
later_in old new group = is_later (old group) (new group)

-- whether a group's new place is of a later epoch and the group hasn't joined
abbrev pub later_unjoined : List ClientGroup → (ℕ → Place) → ℕ → Bool
later_unjoined groups new group = later_in (place_of groups) new group && not (group_of groups group).joined

-- the group at its new place, if that is of a later epoch
abbrev pub later_group : ClientGroup → Place → ClientGroup
later_group group place = if is_later group.place place then record group { place = place } else group

-- the same before the cut: the group also drops its reports, which were of an earlier epoch
abbrev pub reread_group : ClientGroup → Place → ClientGroup
reread_group group place = if is_later group.place place then record group { place = place; reports = [] } else group

-- the groups after a View, each changed by move to its new place. A group that the client didn't have is changed like
-- one whose place is of a later epoch
abbrev pub with_places : (ClientGroup → Place → ClientGroup) → List ClientGroup → List Place → List ClientGroup
with_places move groups [] = groups
with_places move [] (place ∷ places) = move no_group place ∷ with_places move [] places
with_places move (group ∷ groups) (place ∷ places) = move group place ∷ with_places move groups places

-- A View. Groups of a later membership epoch are sent a Fence before the cut and an Install after it. An open writer
-- sends an Install without records, and only to those that haven't joined
abbrev pub viewed : Plan → ℕ → Client → List Place → Stage → ClientStep
viewed plan volume client places Unborn = born_client volume places
viewed plan volume client places Reading =
    let now = with_places reread_group client.groups places in
    record {
      made = fences (length places) volume (place_of now) (later_in (place_of client.groups) (place_in places));
      client = record client { groups = now };
    }
viewed plan volume client places Installing =
    let now = with_places later_group client.groups places in
    record {
      made = installs (length places) volume (place_of now) client.lineage client.found
          (later_in (place_of client.groups) (place_in places));
      client = record client { groups = now };
    }
viewed plan volume client places Writing =
    let now = with_places later_group client.groups places in
    record {
      made = installs (length places) volume (place_of now) client.lineage []
          (later_unjoined client.groups (place_in places));
      client = record client { groups = raised plan now };
    }

-- an acknowledgement counts after the cut, if its membership epoch is at most the client's
abbrev pub ack_taken : Plan → Client → ℕ → Label → ℕ → ℕ → Client
ack_taken plan client group label sender reached =
    let now = group_of client.groups group in
    if has_cut client.stage && nat_le label.member now.place.epoch
    then record client {
      groups = groups_now plan client.stage
          (slice_set client.groups group (record now { counts = with_count sender reached now.counts }));
    }
    else client

-- each group that exists at birth has a place, there are no more places than the plan has groups, and each place is
-- that of a configuration of the plan
abbrev pub are_places : Plan → List Place → Bool
are_places plan places =
    nat_le plan.born (length places) && (nat_le (length places) plan.groups && every_below (length places)
    (λ group. is_configuration plan group (place_in places group).configuration (place_in places group).epoch))

-- The message is for the client of this volume epoch, which has this many groups. It is a View of the volume epoch, or
-- a report, an acknowledgement or a page of one of the groups, from a member. A report's records are those of the
-- group.
abbrev pub is_for : ℕ → ℕ → Message → Bool
is_for volume groups (View of places) = of == volume
is_for volume groups (Report group label sender contents) = label.volume == volume &&
    (nat_lt group groups && (in_group group contents && nat_lt sender 64))
is_for volume groups (Ack group label sender reached) = label.volume == volume && (nat_lt group groups && nat_lt sender
    64)
is_for volume groups (Page group label sender block point bytes) = label.volume == volume &&
    (nat_lt group groups && nat_lt sender 64)
is_for volume groups (StepTo group place) = false
is_for volume groups (Fence group label) = false
is_for volume groups (Install group label piece contents) = false
is_for volume groups (Write group label r) = false
is_for volume groups (Gossip group label r) = false
is_for volume groups (CopyAsk group epoch) = false
is_for volume groups (CopyReport group epoch sender series piece contents) = false
is_for volume groups (PageAsk group label block point) = false

-- what a client does with a message
abbrev pub taken : Plan → ℕ → Client → Message → ClientAnswer
taken plan volume client (View of places) =
    refuse_if (not (is_for volume plan.groups (View of places))) NotAddressed (
    refuse_if (not (are_places plan places)) NotInPlan (
    Ok (viewed plan volume client places client.stage)))
taken plan volume client (Report group label sender contents) =
    refuse_if (not (is_for volume plan.groups (Report group label sender contents))) NotAddressed (
    if_born client (
    Ok (stays (report_taken volume client group label (record { sender = sender; contents = contents })))))
taken plan volume client (Ack group label sender reached) =
    refuse_if (not (is_for volume plan.groups (Ack group label sender reached))) NotAddressed (
    if_born client (
    Ok (stays (ack_taken plan client group label sender reached))))
taken plan volume client (Page group label sender block point bytes) =
    refuse_if (not (is_for volume plan.groups (Page group label sender block point bytes))) NotAddressed (
    if_born client (Ok (stays client)))
taken plan volume client (StepTo group place) = Err NotAddressed
taken plan volume client (Fence group label) = Err NotAddressed
taken plan volume client (Install group label piece contents) = Err NotAddressed
taken plan volume client (Write group label r) = Err NotAddressed
taken plan volume client (Gossip group label r) = Err NotAddressed
taken plan volume client (CopyAsk group epoch) = Err NotAddressed
taken plan volume client (CopyReport group epoch sender series piece contents) = Err NotAddressed
taken plan volume client (PageAsk group label block point) = Err NotAddressed
