-- What a note adds to a pass.
use Rattle.std.proofs.Common.{◌≡◌, ℕ, ◌<◌, List, length, map, take, All, get_or, ap, arith, take_all}
use Rattle.volume_model.specs.declared.fault.Fault.{Fault}
use Rattle.volume_model.specs.Common.{Event, groups_joined, Plan, actor_of, is_joined, world_at, Exact, IsNoted, IsRefused}
use Rattle.volume_model.specs.Journal.{Entry}
use Rattle.volume_model.proofs.Judges.{noted_at_last}
use Rattle.volume_model.proofs.Worlds.{last_at_most}
use Rattle.volume_model.proofs.ListFacts.{get_within}
use Rattle.journal.specs.declared.pass.PassStep.{PassStep}
use Rattle.journal.specs.Entries.{entry_of}
use Rattle.journal.specs.PassSteps.{Made, made, Stands}
use Rattle.journal.specs.Passes.{made_of, AtMost}
use Rattle.journal.proofs.Each.{all_map}

module _ {X : Type 0} (plan : Plan) where
  -- steps that stand in the journal are not after its end
  pub at_most_all : (es : List Entry) (hs : List (PassStep X)) (number : ℕ) → All (λ h. Stands plan es (made h.entry.now.cell (entry_of h.entry.now) h.entry.now.durable)) hs → number ≡ length es → AtMost number (map made_of hs)
  at_most_all es hs number stand last =
      all_map (λ (h : PassStep X). made_of h) (λ (s : Made). s.at < number) hs
      (λ k d lt. let h = get_or hs k d in let s = stand k d lt in let c = get_within es (entry_of h.entry.now) h.entry.now.cell s.stands in omega (arith, c, last))

-- what the model refuses now may be noted by the length of the journal
pub noted_now : (plan : Plan) (slots cells number : ℕ) (es : List Entry) (event : Event) (fault : Fault) → IsNoted fault → number ≡ length es → Exact plan slots cells es event fault → IsRefused plan slots cells es (record { event = event; fault = fault; number = number })
noted_now plan slots cells number es event fault is long exact =
    let whole : take number es ≡ es = take_all number es (omega (arith, long)) in
    let most = last_at_most (actor_of event) 0 0 es (omega arith) in
    noted_at_last plan slots cells number es event fault is (omega (arith, long)) (omega (arith, most, long))
    (ap (λ (l : List Entry). is_joined (groups_joined (world_at plan l).authority) (actor_of event)) whole) exact
