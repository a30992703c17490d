-- The results of a client's calls.
use Rattle.std.specs.Prelude.{◌≡◌, ℕ, Bool, false, not, List, [], Result, Ok, nat_le, length}
use Rattle.volume_model.specs.declared.fault.Fault.{Fault}
use Rattle.volume_model.specs.declared.fault.Fault.TheVariants.{NotOpen, NoGroup}
use Rattle.volume_model.specs.Common.{refuse_if, Plan, last_lsn, last_start, first_writer, group_point_of, is_open, acknowledged, complete_point, durable_point}
use Rattle.volume_model.specs.Message as model
use Rattle.volume_model.specs.Client.{Client}
use Rattle.recovery.specs.Recoveries.{birth_of, view_volume}
use Rattle.volume_c.specs.declared.client_calls.VolumePoints.{VolumePoints}
use Rattle.volume_c.specs.View.{View, Nothing, APlan, ANode, AClient, AnAuthority, ASnapshot}
use Rattle.volume_c.specs.Calls.{Step, Value, client_step, of_plan, of_client, with_message}

-- the writer with which a volume is born
abbrev pub first_step : View → Step
first_step = of_plan (λ plan. Ok ([], AClient plan 1 (first_writer plan)))

-- the recovery that a View makes; any other message is refused
abbrev pub birth_in : Plan → model.Message → Result (List model.Message × View) Fault
birth_in plan m = client_step plan (view_volume m) (birth_of plan m)

-- the same for the bytes of a message
abbrev pub birth_step : List ℕ → View → Step
birth_step bytes view = with_message bytes (λ m. of_plan (λ plan. birth_in plan m) view)

-- the complete point, the durable point, the start and the last number
abbrev pub Points : Type 0
Points = ℕ × ℕ × ℕ × ℕ

abbrev pub points_of : VolumePoints → Points
points_of p = (p.complete, p.durable, p.start, p.last)

-- the value of an open writer; any other client is refused
abbrev pub if_open : {A : Type 0} → Client → Result A Fault → Result A Fault
if_open client rest = refuse_if (not (is_open client.stage)) NotOpen rest

-- why there is no writer: the client isn't open, or the handle holds no client
abbrev pub IsNoWriter : ℕ → View → Type 0
IsNoWriter status Nothing = status ≡ 90
IsNoWriter status (APlan plan) = status ≡ 90
IsNoWriter status (ANode plan group member node) = status ≡ 90
IsNoWriter status (AClient plan volume client) = (status ≡ 70) × (is_open client.stage ≡ false)
IsNoWriter status (AnAuthority plan authority) = status ≡ 90
IsNoWriter status (ASnapshot bytes) = status ≡ 90

abbrev pub points_value : View → Value Points
points_value = of_client
    (λ plan volume client. if_open client (Ok (
      complete_point client,
      durable_point client,
      last_start client.lineage,
      last_lsn client.log,
    )))

abbrev pub point_value : ℕ → View → Value ℕ
point_value group = of_client (λ plan volume client. if_open client (refuse_if (nat_le (length client.groups) group)
    NoGroup (Ok (group_point_of client.groups group))))

abbrev pub acknowledged_value : ℕ → View → Value Bool
acknowledged_value lsn = of_client (λ plan volume client. if_open client (Ok (acknowledged client lsn)))
