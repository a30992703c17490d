-- What whole members allow after an advance, as a call gives it.
use Rattle.std.specs.Prelude.{ℕ, List, ◌&&◌, ◌==◌, nat_lt}
use Rattle.volume_model.specs.Common.{any, Members}
use Rattle.epochs.specs.Waiting.{Allowed, ready_to_advance}
use Rattle.volume_c.specs.declared.advance_calls.VolumeReadiness.{VolumeReadiness}
use Rattle.volume_c.specs.View.{View}
use Rattle.volume_c.specs.Calls.{Value, of_authority}

-- the members with these numbers
abbrev pub among : List ℕ → Members
among members x = any (λ y. nat_lt y 64 && (y == x)) members

-- the readiness in the struct
abbrev pub readiness_of : VolumeReadiness → Allowed
readiness_of readiness = record { read = readiness.can_read; write = readiness.can_write }

-- what these members allow after an advance of the authority
abbrev pub readiness_value : ℕ → ℕ → List ℕ → View → Value Allowed
readiness_value group c members = of_authority
    (λ plan authority. ready_to_advance plan authority group c (among members))
