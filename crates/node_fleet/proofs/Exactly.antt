-- The refusals of a try are the model's.
use Rattle.std.proofs.Common.{◌≡◌, ℕ, ◌<◌, Bool, true, false, List, length, Result, Ok, Err, MatchBool, IfErr, refl, ap, ◌∙◌}
use Rattle.volume_model.specs.declared.fault.Fault.{Fault}
use Rattle.volume_model.specs.declared.fault.Fault.TheVariants.{NoMemory, NoMessage, NoSlot, JournalFull}
use Rattle.volume_model.specs.Common.{refusal_of, refusal, Plan, Event, step, world_at, Exact}
use Rattle.volume_model.specs.Journal.{Entry}
use Rattle.node_fleet.specs.Attempts.{Judged}

-- what is not refused
not_refused : {T : Type 0} (r : Result T Fault) → refusal_of r ≡ Ok tt → refusal r ≡ 0
not_refused (Ok s) e = refl
not_refused (Err fault) e = absurd cc

-- what a refusal of a try shows is the model's
module _ (plan : Plan) (slots cells : ℕ) (es : List Entry) (event : Event) where
  pub exact_of : {T : Type 0} (spent : Type 0) (full : Bool) (defined : Result T Fault) → (spent → (event ≡ Event.Assign) × ((world_at plan es).authority.last_volume ≡ slots))
      → MatchBool full (length es ≡ cells) (length es < cells) → refusal (step plan (world_at plan es) event) ≡ refusal defined → (fault : Fault) → Judged spent full defined fault → Exact plan slots cells es event fault
  exact_of spent full defined spends cell same NoMemory h = tt
  exact_of spent full defined spends cell same NoMessage h = absurd h
  exact_of spent full defined spends cell same NoSlot h = let s = spends h.0 in (s.0, same ∙ not_refused defined h.1, s.1)
  exact_of spent full defined spends cell same JournalFull h = (same ∙ not_refused defined h.1, at_full full h.0 cell)
    where
      at_full : (b : Bool) → b ≡ true → MatchBool b (length es ≡ cells) (length es < cells) → length es ≡ cells
      at_full true e h = h
      at_full false e h = absurd cc
  exact_of spent full defined spends cell same fault h = same ∙ ap refusal h

-- the refusal of a try is the model's
pub attempt_exact : {A T : Type 0} (plan : Plan) (slots cells : ℕ) (es : List Entry) (event : Event) (spent : Type 0) (full : Bool) (defined : Result T Fault) → (spent → (event ≡ Event.Assign) × ((world_at plan es).authority.last_volume ≡ slots))
    → MatchBool full (length es ≡ cells) (length es < cells) → refusal (step plan (world_at plan es) event) ≡ refusal defined → (attempt : Result A Fault) → IfErr attempt (λ fault. Judged spent full defined fault) → IfErr attempt (λ fault. Exact plan slots cells es event fault)
attempt_exact plan slots cells es event spent full defined spends cell same (Ok made) h = tt
attempt_exact plan slots cells es event spent full defined spends cell same (Err fault) h = exact_of plan slots cells es event spent full defined spends cell same fault h
