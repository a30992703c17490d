-- How a client counts acknowledgements, and the points that it computes from them.
use Rattle.std.specs.Prelude.{ℕ, suc, Bool, ◌&&◌, ◌||◌, ◌==◌, nat_le, if◌then◌else◌, List, [], ◌∷◌, max}
use Rattle.volume_model.specs.Lists.{any}
use Rattle.volume_model.specs.Formula.{Formula, Members, sat}
use Rattle.volume_model.specs.Redo.{Redo, last_lsn}
use Rattle.volume_model.specs.Plan.{Plan}
use Rattle.volume_model.specs.Client.{Stage, is_open, Count, ClientGroup, group_point_of, Client, place_configuration}

-- the members whose counted complete point is at least n
abbrev pub reaching : List Count → ℕ → Members
reaching counts n x = any (λ count. count.sender == x && nat_le n count.reached) counts

-- the greatest counted number that a set satisfying the expression has reached, else 0
abbrev pub best : Formula → List Count → List Count → ℕ
best write counts [] = 0
best write counts (count ∷ rest) =
    max (if sat write (reaching counts count.reached) then count.reached else 0) (best write counts rest)

-- the members whose acknowledgement is counted
abbrev pub counted_by : List Count → Members
counted_by counts = reaching counts 0

-- the counts with one more acknowledgement: the greatest number of each sender is kept
abbrev pub with_count : ℕ → ℕ → List Count → List Count
with_count sender reached [] = record { sender = sender; reached = reached } ∷ []
with_count sender reached (count ∷ rest) =
    if count.sender == sender
    then record { sender = sender; reached = max count.reached reached } ∷ rest
    else count ∷ with_count sender reached rest

-- a group with its point raised to what its counts satisfy now. It has joined if its counts satisfy the write
-- expression now, or if it had joined before
abbrev pub raised_group : Plan → ℕ → ClientGroup → ClientGroup
raised_group plan number group =
    let write = (place_configuration plan number group.place).write in
    record group { group_point = max group.group_point (best write group.counts group.counts); joined = group.joined || sat write (counted_by group.counts) }

-- the groups with their points raised; the number is that of the first
abbrev pub raised_from : Plan → ℕ → List ClientGroup → List ClientGroup
raised_from plan number [] = []
raised_from plan number (group ∷ rest) = raised_group plan number group ∷ raised_from plan (suc number) rest

-- all groups with their points raised
abbrev pub raised : Plan → List ClientGroup → List ClientGroup
raised plan groups = raised_from plan 0 groups

-- the groups of a client at this stage: from its opening on their points are raised
abbrev pub groups_now : Plan → Stage → List ClientGroup → List ClientGroup
groups_now plan stage groups = if is_open stage then raised plan groups else groups

-- the greatest number of the log up to which every record is covered by its group's point, else 0
abbrev pub complete_of : (ℕ → ℕ) → List Redo → ℕ
complete_of points [] = 0
complete_of points (r ∷ older) =
    if complete_of points older == last_lsn older && nat_le r.lsn (points r.group) then r.lsn else complete_of points
    older

-- the greatest consistency point that is not above n, else 0
abbrev pub consistency_point_below : ℕ → List Redo → ℕ
consistency_point_below n [] = 0
consistency_point_below n (r ∷ older) = if r.point && nat_le r.lsn n then r.lsn else consistency_point_below n older

-- the number up to which each record of the log is covered by its group's point
abbrev pub complete_point : Client → ℕ
complete_point client = complete_of (group_point_of client.groups) client.log

-- the last consistency point up to the complete point
abbrev pub durable_point : Client → ℕ
durable_point client = consistency_point_below (complete_point client) client.log

-- the number is that of a consistency point of the log
abbrev pub is_consistency_point : ℕ → List Redo → Bool
is_consistency_point n log = any (λ r. r.lsn == n && r.point) log

-- the commit n is acknowledged
abbrev pub acknowledged : Client → ℕ → Bool
acknowledged client n = is_open client.stage && (is_consistency_point n client.log && nat_le n (durable_point client))
