-- A client's state of its groups, as the model's client has it.
use Rattle.std.specs.Prelude.{ℕ, ◌<◌, List, length, map, slice_set}
use Rattle.std.specs.Arc.{arc_value}
use Rattle.volume_model.specs.Common.{Plan, From, ClientGroup, group_of, with_count}
use Rattle.volume_model.specs.Node.{with_first}
use Rattle.volume_model.specs.Client as model
use Rattle.wire.specs.declared.message.Report.{Report}
use Rattle.wire.specs.Common.{contents_of, place_of}
use Rattle.hydration.specs.Copies.{copies_in}
use Rattle.writer_core.specs.declared.group_state.GroupState.{GroupState}
use Rattle.writer_core.specs.Counts.{counts_of}

-- the state of a group
abbrev pub group_at : GroupState → ClientGroup
group_at s = record {
  place = place_of s.place;
  reports = copies_in s.copies.items;
  counts = counts_of s.counts.items;
  group_point = s.point;
  joined = s.joined;
}

-- the states of all groups
abbrev pub groups_of : List GroupState → List ClientGroup
groups_of group_states = map group_at group_states

-- the place of each group is one of its configurations
abbrev pub ArePlaced : Plan → List ClientGroup → Type 0
ArePlaced plan groups = (group : ℕ) → group < length groups → (model.place_of groups group).configuration
    < plan.configurations group

-- a group after an acknowledgement is counted
abbrev pub counted_group : ClientGroup → ℕ → ℕ → ClientGroup
counted_group group sender reached = record group { counts = with_count sender reached group.counts }

-- a report as it is kept: its sender and contents
abbrev pub report_of : Report → From
report_of report = record { sender = report.from; contents = contents_of (arc_value report.contents) }

-- a group after a report is kept; the first of each sender is
abbrev pub reported_group : ClientGroup → From → ClientGroup
reported_group group report = record group { reports = with_first report group.reports }

-- the groups after an acknowledgement of one of them is counted
abbrev pub counted_in : List ClientGroup → ℕ → ℕ → ℕ → List ClientGroup
counted_in groups group sender reached = slice_set groups group (counted_group (group_of groups group) sender reached)

-- the groups after a report of one of them is kept
abbrev pub reported_in : List ClientGroup → ℕ → From → List ClientGroup
reported_in groups group report = slice_set groups group (reported_group (group_of groups group) report)
