-- New plans in the words of a command line.
use Rattle.std.specs.Prelude.{◌≡◌, ℕ, List, Bool, true, false, Option, Some, None, IfSome, IsSome, get_or, option_map, unwrap_or}
use Rattle.std.specs.Ordering.{nat_cmp}
use Rattle.std.specs.FinSet.{FinSet, empty}
use Rattle.plan_edit.specs.NewPlans.{IsNew}
use Rattle.plan_edit.specs.Survivals.{IsSurvival}
use Rattle.plan_edit.specs.Words.{AreNamed, AreWeights}
use Rattle.plan_edit.specs.declared.plan_words.PlanWords.{PlanWords}
use Rattle.plan_edit.specs.declared.plan_words.Quorums.{Quorums}
use Rattle.plan_edit.specs.declared.plan_words.Quorums.TheVariants.{Counted, FullAndTail, Surviving, Zones}
use Rattle.plan_edit.specs.declared.requests.PlanRequest.{PlanRequest}
use Rattle.plan_edit.specs.declared.requests.ReadRequest.{ReadRequest}
use Rattle.plan_edit.specs.declared.word_reading.SurvivalWord.{SurvivalWord}
use Rattle.plan_edit.specs.declared.word_reading.SurvivalWord.TheVariants.{Members, Zone, ZoneAndOne}

-- the members are those that the text names; none if there is no text
abbrev pub IsNamedBy : Option (List ℕ) → FinSet nat_cmp → Type 0
IsNamedBy None members = members ≡ empty
IsNamedBy (Some text) members = AreNamed text members

-- if there is a text, the members are those that it names
abbrev pub IsNamedIf : Option (List ℕ) → FinSet nat_cmp → Type 0
IsNamedIf None members = Unit {0}
IsNamedIf (Some text) members = AreNamed text members

-- the weights are those that the text gives; if there is no text each member weighs 1
abbrev pub AreWeightsBy : Option (List ℕ) → List ℕ → Type 0
AreWeightsBy None weights = (member : ℕ) → get_or weights member 1 ≡ 1
AreWeightsBy (Some text) weights = AreWeights text weights

-- The members, the tail members and the weights are those that the request names. Of zones nothing is said.
pub record IsRead (request : PlanRequest) (read : ReadRequest) : Type 0 where
  pub members : IsNamedIf (option_map (λ text. text.now) request.members) read.members
  pub tail : IsNamedBy (option_map (λ text. text.now) request.tail) read.tail
  pub weights : AreWeightsBy (option_map (λ text. text.now) request.weights) read.weights.of

-- a threshold that is given is the one of the quorums
abbrev pub HasThresholds : PlanRequest → Quorums → Type 0
HasThresholds request (Counted read write weights) = IfSome request.read (λ given. read ≡ given)
    × IfSome request.write (λ given. write ≡ given)
HasThresholds request (FullAndTail read write) = IfSome request.read (λ given. read ≡ given)
    × IfSome request.write (λ given. write ≡ given)
HasThresholds request (Surviving n) = Unit {0}
HasThresholds request (Zones zones is_one_more) = Unit {0}

-- the text says what is to be survived
abbrev pub IsSaid : Option (List ℕ) → SurvivalWord → Type 0
IsSaid None word = ⊥
IsSaid (Some text) word = IsSurvival text word

-- the word of quorums that survive the loss of a zone, and for read sets perhaps of one more member
abbrev pub zone_word : Bool → SurvivalWord
zone_word false = Zone
zone_word true = ZoneAndOne

-- The quorums are of the kind that the request names: those that survive something if it says what; else those of
-- full and tail members if it names tail members; else thresholds over members with the weights that it gives.
abbrev pub HasKind : PlanRequest → Quorums → Type 0
HasKind request (Counted read write weights) = (request.survive ≡ None) × (request.tail ≡ None)
    × AreWeightsBy (option_map (λ text. text.now) request.weights) weights.now
HasKind request (FullAndTail read write) = (request.survive ≡ None) × IsSome request.tail × (request.weights ≡ None)
HasKind request (Surviving n) = IsSaid (option_map (λ text. text.now) request.survive) (Members n)
HasKind request (Zones zones is_one_more) = IsSaid (option_map (λ text. text.now) request.survive)
    (zone_word is_one_more)

-- The plan of these words is what is requested. That the members of zones are those that their text names isn't said.
pub record IsMeant (request : PlanRequest) (words : PlanWords) : Type 0 where
  pub groups : words.groups ≡ request.groups
  pub born : words.born ≡ unwrap_or request.born request.groups
  pub lal : words.lal ≡ request.lal
  pub members : IsNamedIf (option_map (λ text. text.now) request.members) words.members
  pub tail : IsNamedBy (option_map (λ text. text.now) request.tail) words.tail
  pub thresholds : HasThresholds request words.quorums
  pub kind : HasKind request words.quorums

-- the line is the text of a plan without a fault, which is what is requested
pub record IsRequested (request : PlanRequest) (line : List ℕ) : Type 0 where
  pub words : PlanWords
  pub meant : IsMeant request words
  pub is_new : IsNew words line
