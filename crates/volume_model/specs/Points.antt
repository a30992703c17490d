-- The points of a writer, stated with acknowledgements and records.
use Rattle.std.specs.Prelude.{◌≡◌, ℕ, ◌<◌, ◌≤◌, max, true, List, [], ◌∷◌}
use Rattle.volume_model.specs.Lists.{IsIn}
use Rattle.volume_model.specs.Formula.{Formula, sat, HasCounts}
use Rattle.volume_model.specs.Redo.{Redo}
use Rattle.volume_model.specs.Plan.{Plan, IsCertified}
use Rattle.volume_model.specs.Client.{Client, ClientGroup, Count, place_configuration, group_point_of}
use Rattle.volume_model.specs.ClientPoints.{reaching, raised_group, complete_of, consistency_point_below, is_consistency_point, complete_point, durable_point}
use Rattle.volume_model.specs.World.{Event, run, opening}
use Rattle.volume_model.specs.Greatest.{IsGreatest}

-- the members whose counted complete point is at least n satisfy the write expression
abbrev pub IsWrittenTo : Formula → List Count → ℕ → Type 0
IsWrittenTo write counts n = sat write (reaching counts n) ≡ true

-- the group's point after raising is the greatest number that is written, or its earlier value if that is greater
pub record IsRaised (plan : Plan) (number : ℕ) (group : ClientGroup) : Type 0 where
  pub number_written : ℕ
  pub greatest : IsGreatest (IsWrittenTo (place_configuration plan number group.place).write group.counts)
      number_written
  pub point : (raised_group plan number group).group_point ≡ max group.group_point number_written

-- this holds if the write expression is valid, and at every configuration of a certified plan
pub record GroupPointIsGreatest : Type 0 where
  pub of_expressions : (plan : Plan) (number : ℕ) (group : ClientGroup)
      → HasCounts (place_configuration plan number group.place).write → IsRaised plan number group
  pub of_plans : (plan : Plan) → IsCertified plan → (number : ℕ) (group : ClientGroup) → number < plan.groups
      → group.place.configuration < plan.configurations number → IsRaised plan number group

-- each record, newest first, has a greater LSN than all older ones, and none has LSN 0
abbrev pub NumbersGrow : List Redo → Type 0
NumbersGrow [] = Unit {0}
NumbersGrow (r ∷ older) = (0 < r.lsn) × ((s : Redo) → IsIn s older → s.lsn < r.lsn) × NumbersGrow older

-- a record has this number, and each record up to it is covered by the point of its group
pub record IsCovered (points : ℕ → ℕ) (log : List Redo) (n : ℕ) : Type 0 where
  pub record_there : (r : Redo) × IsIn r log × (r.lsn ≡ n)
  pub each_covered : (r : Redo) → IsIn r log → r.lsn ≤ n → r.lsn ≤ points r.group

-- a consistency point of the log has this number, which is at most the limit
pub record IsPointWithin (limit : ℕ) (log : List Redo) (n : ℕ) : Type 0 where
  pub point_there : is_consistency_point n log ≡ true
  pub within : n ≤ limit

-- complete_of gives the greatest covered number, consistency_point_below the last consistency point up to a limit
pub record PointsOfLogsAreGreatest : Type 0 where
  pub complete : (points : ℕ → ℕ) (log : List Redo) → NumbersGrow log → IsGreatest (IsCovered points log)
      (complete_of points log)
  pub durable : (limit : ℕ) (log : List Redo) → NumbersGrow log → IsGreatest (IsPointWithin limit log)
      (consistency_point_below limit log)

-- the same for a client's complete and durable points
pub record HasGreatestPoints (client : Client) : Type 0 where
  pub complete : IsGreatest (IsCovered (group_point_of client.groups) client.log) (complete_point client)
  pub durable : IsGreatest (IsPointWithin (complete_point client) client.log) (durable_point client)

-- this holds for each log and client whose LSNs grow, and in every run of a certified plan the LSNs of each client's
-- log grow
pub record CompleteAndDurablePointsAreGreatest : Type 0 where
  pub of_logs : PointsOfLogsAreGreatest
  pub of_clients : (client : Client) → NumbersGrow client.log → HasGreatestPoints client
  pub in_runs : (plan : Plan) → IsCertified plan → (events : List Event) (volume : ℕ) → NumbersGrow
      ((run plan (opening plan) events).clients volume).log
