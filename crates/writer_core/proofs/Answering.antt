-- Refusals, as answers of a client.
use Rattle.std.proofs.Common.{◌≡◌, ◌≢◌, Bool, Ok, Err, Result, refl}
use Rattle.volume_model.specs.Common.{AnswersAfterGrowth, refusal_of}
use Rattle.volume_model.specs.declared.fault.Fault.{Fault}
use Rattle.volume_model.specs.declared.fault.Fault.TheVariants.{NoMemory}

-- what a judge refuses is refused
pub judged : {T : Type 0} (fault : Fault) (defined : Result T Fault) → Err fault ≡ refusal_of defined → defined ≡ Err fault
judged fault (Ok step) h = cc
judged fault (Err other) h = cc

-- a refusal other than NoMemory is the answer of the call
pub refused : {R S T : Type 0} (late : Fault → Bool) (step : R → S → T) (fault : Fault) (defined : Result T Fault) (state : S) → fault ≢ NoMemory → defined ≡ Err fault → AnswersAfterGrowth late step defined state (Err fault) state
refused late step NoMemory defined state own h = absurd (own refl)
refused late step fault defined state own h = (h, refl)

-- a refusal is one of another call with the same definition
pub same-refusal : {R R' S S' T : Type 0} (late : Fault → Bool) (step : R → S → T) (step' : R' → S' → T) (fault : Fault) (defined : Result T Fault) (old new : S) (old' new' : S') → (new ≡ old → new' ≡ old')
    → AnswersAfterGrowth late step defined old (Err fault) new → AnswersAfterGrowth late step' defined old' (Err fault) new'
same-refusal late step step' NoMemory defined old new old' new' stays h = (h.0, stays h.1)
same-refusal late step step' fault defined old new old' new' stays h = (h.0, stays h.1)
