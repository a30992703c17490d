-- What a status says of a call.
use Rattle.std.proofs.Common.{◌≢◌, ◌≤◌, ℕ, Option, refl, arith}
use Rattle.volume_model.specs.Common.{number_of}
use Rattle.volume_model.specs.declared.fault.Fault.{Fault}
use Rattle.volume_model.specs.declared.fault.Fault.TheVariants.{NoMemory}
use Rattle.volume_c.specs.declared.actor.Held.{Held}
use Rattle.volume_c.specs.Calls.{Step, Does}

-- a fault's number isn't 0
pub number-some : (fault : Fault) → number_of fault ≢ 0
number-some NoMemory e = omega (arith, e)
number-some fault e = omega (arith, e)

-- the library's own refusals change nothing
pub stays : (defined : Step) (status : ℕ) (held : Option Held) → 90 ≤ status → Does defined status held held
stays defined status held much = record {
  ok = λ none. absurd (omega (arith, none, much));
  unchanged = λ _. (refl, refl);
  refused = λ _ few. absurd (omega (arith, few, much));
}
