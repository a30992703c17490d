-- What a run promises, said of the values that it returns.
use Rattle.std.proofs.Common.{◌≡◌, ℕ, zero, suc, ◌<◌, Bool, true, false, ◌&&◌, nat_lt, nat_le, if◌then◌else◌, inl, inr, List, [], ◌∷◌, map, Result, Ok, Err, refl, sym, ap, ap₂, ◌∙◌, subst, IfOk, ltb-true}
use Rattle.std.proofs.lemmas.Bool.{and_parts}
use Rattle.volume_model.specs.declared.fault.Fault.{Fault}
use Rattle.volume_model.specs.Common.{IsIn, IsBeginningOf, each_below, Redo, up_to, Plan, has_cut, is_open, durable_point, is_consistency_point, World, Event, opening, run, Acknowledges, HasFound, KeepsCommits, found_client, opened_client, writers_in, finds_in}
use Rattle.volume_model.specs.Outcome as model
use Rattle.volume_model.proofs.Basics.{IsIn-append}
use Rattle.writer_core.specs.Log.{log_in}
use Rattle.writer_core.specs.Logs.{log_of_set}
use Rattle.world.specs.declared.outcome.RecoveryOutcome.{RecoveryOutcome}
use Rattle.world.specs.declared.outcome.WriterOutcome.{WriterOutcome}
use Rattle.world.specs.declared.outcome.Outcome.{Outcome}
use Rattle.world.specs.Outcomes.{opened_of, find_of, covered_by, HasAcknowledged, KeepsReturned, PromisesRuns, IsOutcomeOfRun}
use Rattle.std.proofs.lemmas.Grind.{common_steps}
use Rattle.std.proofs.Common.{arith}

is_in-map : {A B : Type 0} (f : A → B) (x : A) (xs : List A) → IsIn x xs → IsIn (f x) (map f xs)
is_in-map f x (y ∷ xs) (inl e) = inl (ap f e)
is_in-map f x (y ∷ xs) (inr h) = inr (is_in-map f x xs h)
is_in-map f x [] h = absurd h

-- what stands in such a list is what f gives for a number that passes the test
in_each_below : {A : Type 0} (x : A) (n : ℕ) (test : ℕ → Bool) (f : ℕ → A) → IsIn x (each_below n test f) → (v : ℕ) × ((test v ≡ true) × (x ≡ f v))
in_each_below x zero test f h = absurd h
in_each_below x (suc n) test f h =
    elim (IsIn-append (each_below n test f) (if test n then f n ∷ [] else []) x h) [
      | inl before ↦ in_each_below x n test f before
      | inr last ↦ here (test n) refl last
    ]
  where
    here : (b : Bool) → test n ≡ b → IsIn x (if b then f n ∷ [] else []) → (v : ℕ) × ((test v ≡ true) × (x ≡ f v))
    here true passed (inl e) = (n, (passed, e))
    here true passed (inr none) = absurd none
    here false passed none = absurd none

-- the result of a writer of the world, and of a recovery that has cut
abbrev writer_result : World → ℕ → model.Opened
writer_result world volume = opened_client volume (world.clients volume)

abbrev find_result : World → ℕ → model.Find
find_result world volume = found_client volume (world.clients volume)

-- a returned writer is one of the world
record IsWriterOf (world : World) (w : WriterOutcome) : Type 0 where
  open_is : is_open (world.clients w.volume).stage ≡ true
  log_is : log_in w.log ≡ (world.clients w.volume).log
  durable_is : w.durable ≡ durable_point (world.clients w.volume)

writer_of : (world : World) (w : WriterOutcome) (ws : List WriterOutcome) → map opened_of ws ≡ writers_in world → IsIn w ws → IsWriterOf world w
writer_of world w ws are within =
    let found = in_each_below (opened_of w) (suc world.authority.last_volume) (λ (v : ℕ). is_open (world.clients v).stage) (writer_result world) (subst (IsIn (opened_of w)) are (is_in-map opened_of w ws within)) in
    let v : w.volume ≡ found.0 = ap (λ (o : model.Opened). o.volume) found.1.1 in
    grind (arith, common_steps)

-- a returned find is that of a recovery of the world that has cut
record IsFinderOf (world : World) (f : RecoveryOutcome) : Type 0 where
  found_is : HasFound world f.volume
  log_is : log_of_set f.found.log ≡ (world.clients f.volume).found

finder_of : (world : World) (f : RecoveryOutcome) (fs : List RecoveryOutcome) → map find_of fs ≡ finds_in world → IsIn f fs → IsFinderOf world f
finder_of world f fs are within =
    let found = in_each_below (find_of f) (suc world.authority.last_volume) (λ (v : ℕ). nat_lt 1 v && has_cut (world.clients v).stage) (find_result world) (subst (IsIn (find_of f)) are (is_in-map find_of f fs within)) in
    let v : f.volume ≡ found.0 = ap (λ (o : model.Find). o.volume) found.1.1 in
    let tests = and_parts (nat_lt 1 found.0) (has_cut (world.clients found.0).stage) found.1.0 in
    let later : 1 < found.0 = ltb-true 1 found.0 tests.0 in
    let cut : has_cut (world.clients found.0).stage ≡ true = tests.1 in
    let has : HasFound world found.0 = (later, cut) in
    grind (arith, common_steps)

module _ (world : World) (keeps : KeepsCommits world) where
  acknowledges : (w : WriterOutcome) (n : ℕ) → IsWriterOf world w → HasAcknowledged w n → Acknowledges world w.volume n
  acknowledges w n is has =
      ap₂ (λ (p q : Bool). p && q) is.open_is (ap₂ (λ (l : List Redo) (d : ℕ). is_consistency_point n l && nat_le n d) (sym is.log_is) (sym is.durable_is) ∙ has)

  covered_is : (w : WriterOutcome) (n : ℕ) → IsWriterOf world w → covered_by w n ≡ up_to n (world.clients w.volume).log
  covered_is w n is = ap (up_to n) is.log_is

  -- the promise of a world, said of what was returned of it
  pub kept_returned : (outcome : Outcome) → map opened_of outcome.writers.items ≡ writers_in world → map find_of outcome.finds.items ≡ finds_in world → KeepsReturned outcome
  kept_returned outcome writers finds = record {
    found_later = λ writer find n there here later has.
        let w = writer_of world writer outcome.writers.items writers there in
        let f = finder_of world find outcome.finds.items finds here in
        subst (λ (log : List Redo). IsBeginningOf log (log_of_set find.found.log)) (sym (covered_is writer n w))
        (subst (IsBeginningOf (up_to n (world.clients writer.volume).log)) (sym f.log_is)
        (keeps.found_later writer.volume find.volume n later (acknowledges writer n w has) f.found_is));
    one_record = λ writer other n m r s there here has had one two.
        let w = writer_of world writer outcome.writers.items writers there in
        let o = writer_of world other outcome.writers.items writers here in
        keeps.one_record writer.volume other.volume n m r s (acknowledges writer n w has) (acknowledges other m o had) (subst (IsIn r) (covered_is writer n w) one) (subst (IsIn s) (covered_is other m o) two);
  }

-- the same of an answer
pub returned_of : (plan : Plan) (events : List Event) → PromisesRuns plan → (result : Result Outcome Fault) → IfOk result (IsOutcomeOfRun plan events) → IfOk result KeepsReturned
returned_of plan events promises (Ok outcome) is_run = kept_returned (run plan (opening plan) events) (promises events).commits outcome is_run.writers_are is_run.finds_are
returned_of plan events promises (Err fault) is_run = is_run
