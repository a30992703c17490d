-- Answers of actors, carried along.
use Rattle.std.proofs.Common.{◌≡◌, ℕ, Bool, false, true≢false, List, [], ◌++◌, length, Result, Ok, Err, refl, sym, ap, ◌∙◌, is_err, OnOk}
use Rattle.std.proofs.lemmas.List.{length-map}
use Rattle.volume_model.specs.declared.fault.Fault.{Fault}
use Rattle.volume_model.specs.declared.fault.Fault.TheVariants.{NoMemory}
use Rattle.volume_model.specs.Common.{may_run_out_of_memory, refusal_of, AnswersAfterGrowth, added, ClientAnswer, NodeAnswer, NodeStep}
use Rattle.volume_model.specs.Message as model
use Rattle.wire.specs.declared.message.Message.{Message}
use Rattle.wire.specs.Common.{message_of, messages_of}
use Rattle.volume_model.specs.Client.{Client}
use Rattle.volume_model.specs.Node.{Node}
use Rattle.recovery.specs.Recoveries.{admitted}
use Rattle.world.specs.Moves.{result_of_step, ClientMoves, Moves, NodeMoves}
use Rattle.world.proofs.Messages.{added-messages}
use Rattle.std.proofs.lemmas.Grind.{common_steps}
use Rattle.std.proofs.Common.{arith}

-- what is defined, seen otherwise
abbrev pub map_ok : {A B : Type 0} → (A → B) → Result A Fault → Result B Fault
map_ok f (Err fault) = Err fault
map_ok f (Ok x) = Ok (f x)

-- memory may be wanted where it may be wanted of what is seen otherwise
pub wants-map : {A B : Type 0} (late : Fault → Bool) (f : A → B) (defined : Result A Fault) → may_run_out_of_memory late (map_ok f defined) ≡ may_run_out_of_memory late defined
wants-map late f (Err fault) = refl
wants-map late f (Ok x) = refl

-- an answer about an actor is one about what it is part of
pub answers_along : {R S V T U : Type 0} (late : Fault → Bool) (step : R → S → T) (onward : R → V → U) (f : T → U) (g : S → V) → ((r : R) (s : S) → f (step r s) ≡ onward r (g s))
    → (defined : Result T Fault) (old : S) (result : Result R Fault) (new : S) → AnswersAfterGrowth late step defined old result new → AnswersAfterGrowth late onward (map_ok f defined) (g old) result (g new)
answers_along late step onward f g law defined old (Ok r) new h = ap (map_ok f) h ∙ ap Ok (law r new)
answers_along late step onward f g law defined old (Err NoMemory) new h = (wants-map late f defined ∙ h.0, ap g h.1)
answers_along late step onward f g law defined old (Err fault) new h = (ap (map_ok f) h.0, ap g h.1)

-- the result of a step that makes these messages
pub made_result : {T S : Type 0} (made : T → List model.Message) (actor : T → S) (kept now answers : List Message) (defined : Result T Fault) (step : T) (new : S) (count : ℕ)
    → defined ≡ Ok step → made step ≡ messages_of answers → actor step ≡ new → count ≡ length answers → now ≡ kept ++ answers
    → result_of_step made actor (added (messages_of kept) []) defined ≡ Ok (record { count = count; actor = new; messages = added (messages_of now) [] })
made_result made actor kept now answers defined step new count is makes becomes many grown =
    let long : length (made step) ≡ count = ap length makes ∙ length-map answers message_of ∙ sym many in
    let all : added (made step) (added (messages_of kept) []) ≡ added (messages_of now) [] =
    ap (λ (ms : List model.Message). added ms (added (messages_of kept) [])) makes ∙ sym (added-messages kept answers) ∙ ap (λ (ms : List Message). added (messages_of ms) []) (sym grown) in
    ap (result_of_step made actor (added (messages_of kept) [])) is ∙ λ i. Ok (record { count = long i; actor = becomes i; messages = all i })

-- what holds of a success
pub of_success : {A E : Type 0} (result : Result A E) (P : Type 0) → is_err result ≡ false → OnOk result P → P
of_success (Ok x) P e h = h
of_success (Err fault) P e h = absurd (true≢false e)

-- a client that is judged to refuse leaves all as it is
pub judged_moves : (late : Fault → Bool) (answer : ClientAnswer) (fault : Fault) (old : Client) (kept : List model.Message) → AnswersAfterGrowth late admitted (refusal_of answer) tt (Err fault) tt → ClientMoves late answer old kept (Err fault) old kept
judged_moves late (Ok step) NoMemory old kept h = (refl, refl)
judged_moves late (Err other) NoMemory old kept h = (h.0, refl)
judged_moves late (Ok step) fault old kept h = absurd cc
judged_moves late (Err other) fault old kept h = let same : other ≡ fault = cc in (ap Err same, refl)

-- memory may be wanted of the result of a step where it may be wanted of the step
wants_result : {T S : Type 0} (late : Fault → Bool) (made : T → List model.Message) (actor : T → S) (kept : List model.Message) (defined : Result T Fault) → may_run_out_of_memory late (result_of_step made actor kept defined) ≡ may_run_out_of_memory late defined
wants_result late made actor kept (Err fault) = refl
wants_result late made actor kept (Ok step) = refl

-- an actor that refuses leaves all messages too
pub refused_moves : {R S T : Type 0} (made : T → List model.Message) (actor : T → S) (late : Fault → Bool) (step : R → S → T) (defined : Result T Fault) (old new : S) (kept : List model.Message) (fault : Fault) → AnswersAfterGrowth late step defined old (Err fault) new → Moves made actor late defined old kept (Err fault) new kept
refused_moves made actor late step defined old new kept NoMemory h = (wants_result late made actor kept defined ∙ h.0, ap (λ now. record { actor = now; messages = kept }) h.1)
refused_moves made actor late step defined old new kept fault h = (ap (result_of_step made actor kept) h.0, ap (λ now. record { actor = now; messages = kept }) h.1)

-- a step that a node was made ready for is the one that is defined
pub ready_moves : (late : Fault → Bool) (defined : NodeAnswer) (step : Node → NodeStep) (old ready new : Node) (kept now : List model.Message) (result : Result ℕ Fault)
    → defined ≡ Ok (step old) → ready ≡ old → NodeMoves late (Ok (step ready)) ready kept result new now → NodeMoves late defined old kept result new now
ready_moves late defined step old ready new kept now result is same moves = grind (arith, common_steps)
