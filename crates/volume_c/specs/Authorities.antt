-- The results of the authority's calls.
use Rattle.std.specs.Prelude.{List, [], ℕ, Result, Ok, Err}
use Rattle.volume_model.specs.declared.fault.Fault.{Fault}
use Rattle.volume_model.specs.Common.{Plan, Authority, opening}
use Rattle.volume_model.specs.Message as model
use Rattle.epochs.specs.Snapshot.{resumed}
use Rattle.volume_c.specs.View.{View, AnAuthority}
use Rattle.volume_c.specs.Calls.{Step, Value, of_plan, of_authority, with_value}
use Rattle.volume_c.specs.Saved.{authority_in, authority_spelled}

-- the step that makes an authority: it makes no message
abbrev pub authority_made : Plan → Result Authority Fault → Result (List model.Message × View) Fault
authority_made plan (Err fault) = Err fault
authority_made plan (Ok authority) = Ok ([], AnAuthority plan authority)

-- the authority of a new volume
abbrev pub opening_step : View → Step
opening_step = of_plan (λ plan. authority_made plan (Ok (opening plan).authority))

-- the authority of a snapshot's bytes
abbrev pub resumed_step : List ℕ → View → Step
resumed_step bytes view = with_value (authority_in bytes)
    (λ authority. of_plan (λ plan. authority_made plan (resumed plan authority)) view)

-- the bytes of the snapshot
abbrev pub snapshot_value : View → Value (List ℕ)
snapshot_value = of_authority (λ plan authority. Ok (authority_spelled authority))
