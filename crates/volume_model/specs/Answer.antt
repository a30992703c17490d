-- What a call may answer besides what its definition gives. A call runs out of memory only when an allocation fails,
-- which no definition mentions.
use Rattle.std.specs.Prelude.{◌≡◌, Bool, true, false, Result, Ok, Err}
use Rattle.volume_model.specs.declared.fault.Fault.{Fault}
use Rattle.volume_model.specs.declared.fault.Fault.TheVariants.{NoMemory}

-- one step after another, up to the first fault
infixl 10 ◌>>=◌
abbrev pub ◌>>=◌ : {A B : Type 0} → Result A Fault → (A → Result B Fault) → Result B Fault
(Ok x) >>= f = f x
(Err e) >>= f = Err e

-- the definition fails with this fault, unless memory ran out
abbrev pub Fails : {Y : Type 0} → Fault → Result Y Fault → Type 0
Fails NoMemory defined = Unit {0}
Fails fault defined = defined ≡ Err fault

-- what a call returned, seen by view, is what the definition gives, unless memory ran out
abbrev pub Gives : {X Y : Type 0} → (X → Y) → Result X Fault → Result Y Fault → Type 0
Gives view (Ok x) defined = defined ≡ Ok (view x)
Gives view (Err fault) defined = Fails fault defined

-- no refusal comes after an allocation has failed: the call finds every refusal before it allocates
abbrev pub never_after_growth : Fault → Bool
never_after_growth fault = false

-- the definition refuses nothing, or refuses with a fault that may come after an allocation has failed
abbrev pub may_run_out_of_memory : {T : Type 0} → (Fault → Bool) → Result T Fault → Bool
may_run_out_of_memory late (Ok step) = true
may_run_out_of_memory late (Err fault) = late fault

-- What a call answers that took an actor from state old to state new. It makes the defined step, with the new state; or
-- it refuses as defined, and the state is unchanged. If memory ran out the state is unchanged too; that is answered
-- only if the definition refuses nothing, or refuses with a fault that may come after a failed allocation.
abbrev pub AnswersAfterGrowth : {R S T : Type 0} → (Fault → Bool) → (R → S → T) → Result T Fault → S → Result R Fault
    → S → Type 0
AnswersAfterGrowth late step defined old (Ok made) new = defined ≡ Ok (step made new)
AnswersAfterGrowth late step defined old (Err NoMemory) new = (may_run_out_of_memory late defined ≡ true) × (new ≡ old)
AnswersAfterGrowth late step defined old (Err fault) new = (defined ≡ Err fault) × (new ≡ old)

-- The same for a call that finds every refusal before it allocates.
abbrev pub Answers : {R S T : Type 0} → (R → S → T) → Result T Fault → S → Result R Fault → S → Type 0
Answers step defined old result new = AnswersAfterGrowth never_after_growth step defined old result new

-- The same for a call that makes something new and changes nothing: what it made, seen by view, is what is defined.
abbrev pub AnswersNewAfterGrowth : {R T : Type 0} → (Fault → Bool) → (R → T) → Result T Fault → Result R Fault → Type 0
AnswersNewAfterGrowth late view defined result = AnswersAfterGrowth {S = Unit {0}} late (λ made u. view made) defined tt
    result tt

-- The same for such a call that finds every refusal before it allocates.
abbrev pub AnswersNew : {R T : Type 0} → (R → T) → Result T Fault → Result R Fault → Type 0
AnswersNew view defined result = AnswersNewAfterGrowth never_after_growth view defined result

-- the refusal of a call, without its step
abbrev pub refusal_of : {T : Type 0} → Result T Fault → Result (Unit {0}) Fault
refusal_of (Ok step) = Ok tt
refusal_of (Err fault) = Err fault

-- The same for a call that allocates nothing, and so never runs out of memory.
abbrev pub AnswersAlways : {R S T : Type 0} → (R → S → T) → Result T Fault → S → Result R Fault → S → Type 0
AnswersAlways step defined old (Ok made) new = defined ≡ Ok (step made new)
AnswersAlways step defined old (Err fault) new = (defined ≡ Err fault) × (new ≡ old)
