use Rattle.std.specs.Prelude.{ℕ, suc, ◌+◌, ◌^◌, Bool, true, false, not, ◌&&◌, ◌==◌, nat_lt, nat_le, if◌then◌else◌, List, [], ◌∷◌, ◌++◌, Option, Some, None, Result, Ok, Err, length, map, max, take, drop, replicate}
use Rattle.volume_model.specs.Lists.{any, every}
use Rattle.volume_model.specs.Answer.{◌>>=◌}
use Rattle.volume_model.specs.Formula.{Formula, Members, sat}
use Rattle.volume_model.specs.Redo.{Redo, with_record, holds_record, record_at, scl}
use Rattle.volume_model.specs.Lineage.{Lineage, birth, last_epoch, Contents, newest, found_in}
use Rattle.volume_model.specs.Pieces.{Piece, Pieces, Copy, most_pieces, in_pieces, is_bad_piece, is_complete, contents_in, united, with_install, pieces_from, with_copy, copied_by, brought}
use Rattle.volume_model.specs.Plan.{Plan, has_member, is_full, is_configuration}
use Rattle.volume_model.specs.Message.{Label, Place, Message}
use Rattle.volume_model.specs.Message.Message.{View, StepTo, Fence, Report, Install, Write, Gossip, Ack, CopyAsk, CopyReport, PageAsk, Page}
use Rattle.volume_model.specs.Refusal.{refuse_if}
use Rattle.volume_model.specs.declared.fault.Fault.{Fault}
use Rattle.volume_model.specs.declared.fault.Fault.TheVariants.{AheadMember, AlreadyWhole, BadPiece, Full, NoRecord, NotAddressed, NotEnough, NotInPlan, NotInstalled, NotWhole, PointAhead, SeriesSpent, StaleMember, StaleVolume, TailSegment}

-- contents and the member that sent them
pub record From : Type 0 where
  pub sender : ℕ
  pub contents : Contents

-- a segment of a group: its volume epoch, the latest place that it knows, whether it is whole, its contents, the pieces
-- kept of copies and of an install, and the number of copies that it has made
pub record Node : Type 0 where
  pub volume : ℕ
  pub place : Place
  pub whole : Bool
  pub contents : Contents
  pub copies : List Copy
  pub install : Option Pieces
  pub copied : ℕ

-- the last volume epoch of the node's lineage
abbrev pub lineage_epoch : Node → ℕ
lineage_epoch node = last_epoch node.contents.lineage

-- a node before any event: a member of the root is whole, any other isn't
abbrev pub born_node : Plan → ℕ → ℕ → Node
born_node plan group member =
    if has_member (plan.configuration group 0) member
    then record {
      volume = 1;
      place = record { configuration = 0; epoch = 1 };
      whole = true;
      contents = record
          { lineage = birth; records = [] };
      copies = [];
      install = None;
      copied = 0;
    }
    else record {
      volume = 0;
      place = record { configuration = 0; epoch = 0 };
      whole = false;
      contents = record
          { lineage = []; records = [] };
      copies = [];
      install = None;
      copied = 0;
    }

-- the node's latest place is a configuration of which it is a member
abbrev pub has_configuration : Plan → ℕ → ℕ → Node → Bool
has_configuration plan group member node = nat_lt 0 node.place.epoch && has_member
    (plan.configuration group node.place.configuration) member

-- the result of a node's step: the messages that it makes, and its new state
pub record NodeStep : Type 0 where
  pub made : List Message
  pub node : Node

-- a step, or the number of a refusal
abbrev pub NodeAnswer : Type 0
NodeAnswer = Result NodeStep Fault

-- the tests of a label, in order
abbrev pub label_checks : Node → Label → NodeAnswer → NodeAnswer
label_checks node label rest =
    refuse_if (nat_lt label.member node.place.epoch) StaleMember (
    refuse_if (nat_lt node.place.epoch label.member) AheadMember (
    refuse_if (not node.whole) NotWhole (
    refuse_if (nat_lt label.volume node.volume) StaleVolume rest)))

-- how many records a segment may hold
abbrev pub most_records : ℕ
most_records = 1048576

-- the senders, as a set of members
abbrev pub senders : List From → Members
senders reports x = any (λ report. report.sender == x) reports

-- the reports with one more; the first of each sender is kept
abbrev pub with_first : From → List From → List From
with_first new reports = if senders reports new.sender then reports else reports ++ new ∷ []

-- the contents of the reports
abbrev pub contents_of : List From → List Contents
contents_of reports = map (λ report. report.contents) reports

-- the acknowledgement of what a segment holds
abbrev pub ack_of : ℕ → ℕ → Label → List Redo → Message
ack_of group member label records = Ack group label member (scl records)

-- what a node does with a record of a Write or a Gossip
abbrev pub take_record : ℕ → ℕ → Node → Label → Redo → NodeAnswer
take_record group member node label r =
    label_checks node label (
    refuse_if (not (lineage_epoch node == label.volume)) NotInstalled (
    refuse_if (not (holds_record r node.contents.records) && nat_le most_records (length node.contents.records)) Full (
    let records = with_record r node.contents.records in
    Ok (record {
      made = ack_of group member label records ∷ [];
      node = record node { contents = record { lineage = node.contents.lineage; records = records } };
    }))))

-- the step that keeps these pieces of an install. Nothing is answered until all are kept; then they replace lineage and
-- records, and are dropped
abbrev pub install_step : ℕ → ℕ → Node → Label → Lineage → Pieces → NodeStep
install_step group member node label lineage pieces =
    if is_complete pieces
    then record {
      made = ack_of group member label (united (contents_in pieces)) ∷ [];
      node = record node {
        volume = label.volume;
        contents = record {
          lineage = lineage;
          records = united
              (contents_in pieces);
        };
        install = None;
      };
    }
    else record { made = []; node = record node { volume = label.volume; install = Some pieces } }

-- the step of one piece of an install. If the lineage is already that of the volume epoch, the node only acknowledges
-- what it holds
unfoldable pub installed : ℕ → ℕ → Node → Label → Piece → Contents → NodeStep
installed group member node label piece contents =
    if lineage_epoch node == label.volume
    then record {
      made = ack_of group member label node.contents.records ∷ [];
      node = record node
          { volume = label.volume };
    }
    else install_step group member node label contents.lineage (with_install node.install label.volume piece contents)

-- how many copies a node may make
abbrev pub most_copies : ℕ
most_copies = 2 ^ 62

-- the bytes of a block's page with one record's write
abbrev pub written : Redo → List ℕ → List ℕ
written r page = take r.offset page ++ r.bytes ++ drop (r.offset + length r.bytes) page

-- the page of a block up to a number: the writes applied in order to zeros
abbrev pub page_from : List ℕ → ℕ → ℕ → List Redo → List ℕ
page_from page block point [] = page
page_from page block point (r ∷ rest) =
    page_from (if r.block == block && nat_le r.lsn point then written r page else page) block point rest

-- the page of a block up to a number, from zeros
abbrev pub page_of : List Redo → ℕ → ℕ → List ℕ
page_of records block point = page_from (replicate 512 0) block point records

-- the tests for a page, in order: the member keeps whole pages, and the segment is complete up to the point
unfoldable pub page_checks : {A : Type 0} → Plan → ℕ → ℕ → Node → ℕ → Result A Fault → Result A Fault
page_checks plan group member node point rest =
    refuse_if (not (has_configuration plan group member node && is_full
    (plan.configuration group node.place.configuration) member)) TailSegment (
    refuse_if (nat_lt (scl node.contents.records) point) PointAhead rest)

-- a node's answer to a question for a page whose label is valid
unfoldable pub page_answer : Plan → ℕ → ℕ → Node → Label → ℕ → ℕ → NodeAnswer
page_answer plan group member node label block point =
    refuse_if (not (lineage_epoch node == label.volume)) NotInstalled (
    page_checks plan group member node point (
    Ok (record {
      made = Page group label member block point (page_of node.contents.records block point) ∷ [];
      node = node;
    })))

-- each record is of the group
abbrev pub in_group : ℕ → Contents → Bool
in_group group contents = every (λ r. r.group == group) contents.records

-- what a node does with a message: the first refusal that applies, else its effect and its answer
abbrev pub reaction : Plan → ℕ → ℕ → Node → Message → NodeAnswer
reaction plan group member node (Fence to label) =
    refuse_if (not (to == group)) NotAddressed (
    label_checks node label (
    Ok (record {
      made = Report group label member node.contents ∷ [];
      node = record node { volume = label.volume };
    })))
reaction plan group member node (Install to label piece contents) =
    refuse_if (not (to == group && in_group group contents)) NotAddressed (
    label_checks node label (
    refuse_if (nat_lt most_pieces piece.of) Full (
    refuse_if (is_bad_piece node.install label.volume piece contents) BadPiece (
    Ok (installed group member node label piece contents)))))
reaction plan group member node (Write to label r) =
    refuse_if (not (to == group && r.group == group)) NotAddressed (take_record group member node label r)
reaction plan group member node (Gossip to label r) =
    refuse_if (not (to == group && r.group == group)) NotAddressed (take_record group member node label r)
reaction plan group member node (StepTo to place) =
    refuse_if (not (to == group)) NotAddressed (
    refuse_if (nat_le place.epoch node.place.epoch) StaleMember (
    refuse_if (not (is_configuration plan group place.configuration place.epoch)) NotInPlan (
    Ok (record {
      made = if node.whole then [] else CopyAsk group place.epoch ∷ [];
      node = record node { place = place; copies = []; install = None };
    }))))
reaction plan group member node (CopyAsk to epoch) =
    refuse_if (not (to == group)) NotAddressed (
    refuse_if (nat_lt epoch node.place.epoch) StaleMember (
    refuse_if (nat_lt node.place.epoch epoch) AheadMember (
    refuse_if (not node.whole) NotWhole (
    refuse_if (nat_le most_copies node.copied) SeriesSpent (
    Ok (record {
      made = in_pieces node.contents (CopyReport group epoch member (suc node.copied));
      node = record node { copied = suc node.copied };
    }))))))
reaction plan group member node (CopyReport to epoch sender series piece contents) =
    refuse_if (not (to == group && in_group group contents && nat_lt sender 64)) NotAddressed (
    refuse_if node.whole AlreadyWhole (
    refuse_if (nat_lt epoch node.place.epoch) StaleMember (
    refuse_if (nat_lt node.place.epoch epoch) AheadMember (
    refuse_if (is_bad_piece (pieces_from node.copies sender) series piece contents) BadPiece (
    Ok (record { made = []; node = record node { copies = with_copy sender series piece contents node.copies } }))))))
reaction plan group member node (PageAsk to label block point) =
    refuse_if (not (to == group)) NotAddressed (
    label_checks node label (
    page_answer plan group member node label block point))
reaction plan group member node (View volume places) = Err NotAddressed
reaction plan group member node (Report to label sender contents) = Err NotAddressed
reaction plan group member node (Ack to label sender reached) = Err NotAddressed
reaction plan group member node (Page to label sender block point bytes) = Err NotAddressed

-- the volume epoch and contents of a node that has become whole
pub record Hydrated : Type 0 where
  pub volume : ℕ
  pub contents : Contents

-- If the members with complete copies satisfy the read expression: the newest lineage, and all records of the copies
-- that are live in it.
abbrev pub finished : Formula → List Copy → Option Hydrated
finished read copies =
    let lineage = newest (brought copies) in
    if sat read (copied_by copies)
    then Some (record {
      volume = last_epoch lineage;
      contents = record {
        lineage = lineage;
        records = found_in lineage
            (brought copies);
      };
    })
    else None

-- refused if there are not enough copies
abbrev pub or_not_enough : Option Hydrated → Result Hydrated Fault
or_not_enough None = Err NotEnough
or_not_enough (Some h) = Ok h

-- what the node's copies give, if their members satisfy the read expression of its latest configuration
unfoldable pub gathered : Plan → ℕ → ℕ → Node → Result Hydrated Fault
gathered plan group member node =
    refuse_if (not (has_configuration plan group member node)) NotEnough (
    or_not_enough (finished (plan.configuration group node.place.configuration).read node.copies))

-- the node that has become whole
abbrev pub whole_node : Node → Hydrated → Node
whole_node node h = record node { volume = max node.volume h.volume; whole = true; contents = h.contents }

-- the step in which a node becomes whole, refused if that gives more records than it may hold
abbrev pub whole_from : Node → Hydrated → NodeAnswer
whole_from node h = refuse_if (nat_lt most_records (length h.contents.records)) Full
    (Ok (record { made = []; node = whole_node node h }))

-- the answer to Hydrate: the node becomes whole from copies of a read quorum of its own configuration
abbrev pub hydrated : Plan → ℕ → ℕ → Node → NodeAnswer
hydrated plan group member node = refuse_if node.whole AlreadyWhole (gathered plan group member node >>= whole_from
    node)

-- a node after a restart: it loses the pieces that it kept
abbrev pub restarted : Node → Node
restarted node = record node { copies = []; install = None }

-- the Gossip of a record that was looked up
abbrev pub gossip_of : ℕ → Node → Option Redo → NodeAnswer
gossip_of group node None = Err NoRecord
gossip_of group node (Some r) =
    Ok (record { made = Gossip group (record { volume = node.volume; member = node.place.epoch }) r ∷ []; node = node })

-- the answer to Offer: the node sends one of its records to the others
abbrev pub offered : ℕ → Node → ℕ → NodeAnswer
offered group node lsn =
    refuse_if (not node.whole) NotWhole (
    refuse_if (not (node.volume == lineage_epoch node)) NotInstalled (
    gossip_of group node (record_at node.contents.records lsn)))
