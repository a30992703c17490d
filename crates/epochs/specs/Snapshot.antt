-- The state of an authority that survives a restart.
use Rattle.std.specs.Prelude.{◌==◌, ◌||◌, nat_lt, length, Result, Ok}
use Rattle.volume_model.specs.Common.{Plan, refuse_if}
use Rattle.volume_model.specs.World as model
use Rattle.volume_model.specs.declared.fault.Fault.{Fault}
use Rattle.volume_model.specs.declared.fault.Fault.TheVariants.{BadField, NoGroup}
use Rattle.epochs.specs.declared.snapshot.AuthoritySnapshot.{AuthoritySnapshot}

-- the authority of the model for a snapshot
abbrev pub authority_in : AuthoritySnapshot → model.Authority
authority_in s = record { last_volume = s.last_volume; configurations = s.configurations.items }

-- resuming a snapshot: a state that an authority over the plan can have is restored
abbrev pub resumed : Plan → model.Authority → Result model.Authority Fault
resumed plan a =
    refuse_if (a.last_volume == 0) BadField (
    refuse_if (nat_lt (length a.configurations) plan.born || nat_lt plan.groups (length a.configurations)) NoGroup (Ok a))
