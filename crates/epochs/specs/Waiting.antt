-- What the whole members of a group allow after an advance.
use Rattle.std.specs.Prelude.{ℕ, Bool, Result, Ok}
use Rattle.volume_model.specs.Common.{Plan, Members, sat, ◌>>=◌, advanced}
use Rattle.volume_model.specs.World as model
use Rattle.volume_model.specs.declared.fault.Fault.{Fault}
use Rattle.epochs.specs.declared.authority.waiting.Readiness.{Readiness}

-- they satisfy the read expression, they satisfy the write expression
pub record Allowed : Type 0 where
  pub read : Bool
  pub write : Bool

abbrev pub allowed : Readiness → Allowed
allowed readiness = record { read = readiness.can_read; write = readiness.can_write }

-- what a set of members allows in a configuration of a group
abbrev pub allowed_by : Plan → ℕ → ℕ → Members → Allowed
allowed_by plan group c whole =
    record {
      read = sat (plan.configuration group c).read whole;
      write = sat (plan.configuration group c).write whole;
    }

-- refused if the advance is, else what the members allow in the group's next configuration
abbrev pub ready_to_advance : Plan → model.Authority → ℕ → ℕ → Members → Result Allowed Fault
ready_to_advance plan authority group c whole = advanced plan authority group c >>= λ step. Ok
    (allowed_by plan group c whole)
