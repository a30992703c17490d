-- What a refusal of a try shows.
use Rattle.std.proofs.Common.{◌≡◌, ℕ, Bool, Option, Some, None, Result, Ok, Err, IfOk, IfErr, OnErr, ap, subst}
use Rattle.volume_model.specs.declared.fault.Fault.{Fault}
use Rattle.volume_model.specs.declared.fault.Fault.TheVariants.{NoMemory, NoMessage, NoSlot, JournalFull}
use Rattle.volume_model.specs.Common.{refusal_of, AnswersAfterGrowth, Plan, Message, Refuses, IsOwnOfClient}
use Rattle.volume_model.specs.Client.{Client}
use Rattle.volume_model.proofs.Own.{issued_own, taken_own, cut_own, opened_own, resent_own, page_asked_own}
use Rattle.recovery.specs.Recoveries.{admitted}
use Rattle.writer_core.specs.Changes.{changes_of}
use Rattle.world.specs.declared.actions.ClientAction.{ClientAction}
use Rattle.world.specs.declared.actions.ClientAction.TheVariants as action
use Rattle.world.specs.Actions.{client_acted}
use Rattle.node_fleet.specs.Actions.{HasFound}
use Rattle.node_fleet.specs.Attempts.{JudgedOf}

-- a client finds its refusals on its own
pub action_own : (asked : ClientAction) (found : Option Message) (plan : Plan) (volume : ℕ) (now : Client)
    → HasFound asked found → Refuses IsOwnOfClient (client_acted found asked plan volume now)
action_own (action.Issue changes) found plan volume now has = issued_own plan volume now (changes_of changes.now)
action_own (action.Take message) None plan volume now has = absurd cc
action_own (action.Take message) (Some m) plan volume now has = taken_own plan volume now m
action_own action.Cut found plan volume now has = cut_own plan volume now
action_own action.Open found plan volume now has = opened_own plan now
action_own (action.Resend lsn) found plan volume now has = resent_own volume now lsn
action_own (action.Read group block) found plan volume now has = page_asked_own volume now group block

module _ {T : Type 0} (full : Bool) (defined : Result T Fault) (own : Refuses IsOwnOfClient defined) where
  is_own : (fault : Fault) → defined ≡ Err fault → IsOwnOfClient fault
  is_own fault e = subst (λ (r : Result T Fault). Refuses IsOwnOfClient r) e own

  judged : (fault : Fault) → defined ≡ Err fault → JudgedOf full defined fault
  judged NoMemory e = tt
  judged NoMessage e = is_own NoMessage e
  judged NoSlot e = absurd (is_own NoSlot e)
  judged JournalFull e = absurd (is_own JournalFull e)
  judged fault e = e

  -- an act was refused
  pub judged_act : {R S : Type 0} (late : Fault → Bool) (step : R → S → T) (old new : S) (fault : Fault) → AnswersAfterGrowth late step defined old (Err fault) new → JudgedOf full defined fault
  judged_act late step old new NoMemory h = tt
  judged_act late step old new fault h = judged fault h.0

-- an act that was refused left the actor as it was
pub still_act : {R S T : Type 0} (late : Fault → Bool) (step : R → S → T) (defined : Result T Fault) (old new : S) (fault : Fault) → AnswersAfterGrowth late step defined old (Err fault) new → new ≡ old
still_act late step defined old new NoMemory h = h.1
still_act late step defined old new fault h = h.1

-- what an act answered, refused or not
pub done_answer : {R S T : Type 0} (late : Fault → Bool) (step : R → S → T) (defined : Result T Fault) (old new : S) (result : Result R Fault) → AnswersAfterGrowth late step defined old result new → IfOk result (λ made. defined ≡ Ok (step made new))
done_answer late step defined old new (Ok made) h = h
done_answer late step defined old new (Err fault) h = tt

pub judged_answer : {R S T : Type 0} (full : Bool) (defined : Result T Fault) → Refuses IsOwnOfClient defined → (late : Fault → Bool) (step : R → S → T) (old new : S) (result : Result R Fault) → AnswersAfterGrowth late step defined old result new → IfErr result (λ fault. JudgedOf full defined fault)
judged_answer full defined own late step old new (Ok made) h = tt
judged_answer full defined own late step old new (Err fault) h = judged_act full defined own late step old new fault h

pub still_answer : {R S T : Type 0} (late : Fault → Bool) (step : R → S → T) (defined : Result T Fault) (old new : S) (result : Result R Fault) → AnswersAfterGrowth late step defined old result new → OnErr result (new ≡ old)
still_answer late step defined old new (Ok made) h = tt
still_answer late step defined old new (Err fault) h = still_act late step defined old new fault h

-- what is refused by a test is what is defined
refused_is : {T : Type 0} (defined : Result T Fault) (fault : Fault) → refusal_of defined ≡ Err fault → defined ≡ Err fault
refused_is (Ok step) fault h = absurd cc
refused_is (Err other) fault h = let same : other ≡ fault = cc in ap Err same

-- a test refused
pub judged_test : {T : Type 0} (full : Bool) (defined : Result T Fault) → Refuses IsOwnOfClient defined → (late : Fault → Bool) (fault : Fault) → AnswersAfterGrowth late admitted (refusal_of defined) tt (Err fault) tt → JudgedOf full defined fault
judged_test full defined own late NoMemory h = tt
judged_test full defined own late fault h = judged full defined own fault (refused_is defined fault h.0)
