-- What holds if each advance of a group waited.
use Rattle.std.specs.Prelude.{◌≡◌, ℕ, Bool, true, ◌&&◌, ◌==◌, List, [], ◌∷◌, is_ok, if◌then◌else◌}
use Rattle.volume_model.specs.Common.{Plan, has_member, Members, sat, World, Event, advanced, after, configuration_of, opening, run, Advance}

-- the members of a group that are whole
abbrev pub whole_in : World → ℕ → Members
whole_in world group x = (world.nodes group x).whole

-- a group can be read: its whole members satisfy the read expression of its configuration
abbrev pub CanBeRead : Plan → World → ℕ → Type 0
CanBeRead plan world group =
    sat (plan.configuration group (configuration_of world.authority group)).read (whole_in world group) ≡ true

-- Whether the group's last advance waited, after an event. An advance waited if the members that were whole before it
-- satisfy the read expression of the next configuration. A refused advance, and any other event, changes nothing.
abbrev pub waited_after : Plan → World → ℕ → Event → Bool → Bool
waited_after plan world group (Advance other c) before =
    if other == group && is_ok (advanced plan world.authority other c)
    then sat (plan.configuration group c).read (whole_in world group)
    else before
waited_after plan world group event before = before

-- whether the last advance of a group among these events waited; before if there is none
abbrev pub last_advance_waited : Plan → World → ℕ → List Event → Bool → Bool
last_advance_waited plan world group [] before = before
last_advance_waited plan world group (event ∷ events) before =
    last_advance_waited plan (after plan world event) group events (waited_after plan world group event before)

-- If the members of the group's root satisfy the root's read expression, and the group's last advance waited (if there
-- was one), the group can be read.
abbrev pub WaitingKeepsReaders : Type 0
WaitingKeepsReaders = (plan : Plan) (group : ℕ) (events : List Event)
    → sat (plan.configuration group 0).read (has_member (plan.configuration group 0)) ≡ true
    → last_advance_waited plan (opening plan) group events true ≡ true
    → CanBeRead plan (run plan (opening plan) events) group
