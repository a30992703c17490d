-- A job, and the words of the command line that name it.
use Rattle.std.specs.Prelude.{◌≡◌, ◌≢◌, ◌⊎◌, ◌<◌, ◌^◌, ℕ, List, [], Bool, true, false, Option, Some, None, codes, option_map}
use Rattle.std.specs.Str.{bytes_eq}
use Rattle.std.specs.Str.Parse.{IsNumeral, digits_value, without_leading_plus}
use Rattle.clap.specs.Words.{Row, Text, first_of, one_of}
use Rattle.plan_edit.specs.declared.requests.PlanRequest.{PlanRequest}
use Rattle.commands.specs.declared.action.Action.{Action}
use Rattle.commands.specs.declared.action.Action.TheVariants.{Check, Run, Fleet, Search, Explain, Replace, Make, New, Draw}
use Rattle.commands.specs.declared.action.Job.{Job}
use Rattle.commands.specs.declared.action.Making.{Making}
use Rattle.commands.specs.declared.action.Making.TheVariants.{Steps, Simulate}
use Rattle.commands.specs.declared.action.ReplaceOptions.{ReplaceOptions}

-- the subcommand that makes something of a checked plan
abbrev pub making_name : Making → Text
making_name (Steps group configuration) = codes "steps"
making_name (Simulate simulation) = codes "simulate"

-- the subcommand of an action
abbrev pub name_of : Action → Text
name_of Check = codes "check"
name_of Run = codes "run"
name_of Fleet = codes "fleet"
name_of Search = codes "search"
name_of Explain = codes "explain"
name_of (Replace options) = codes "replace"
name_of (Make making) = making_name making
name_of New = codes "new"
name_of Draw = codes "draw"

-- the action prints a plan of its own, or a picture: its status 0 doesn't say that the plan of its file has no fault
abbrev pub prints_plan : Action → Bool
prints_plan Check = false
prints_plan Run = false
prints_plan Fleet = false
prints_plan Search = true
prints_plan Explain = false
prints_plan (Replace options) = true
prints_plan (Make making) = false
prints_plan New = true
prints_plan Draw = true

-- the text is this number
abbrev pub IsSpelled : Text → ℕ → Type 0
IsSpelled text n = IsNumeral 10 (without_leading_plus text) × (n ≡ digits_value 10 (without_leading_plus text))

-- there is a text, and it is this number
abbrev pub IsNumberIn : Option Text → ℕ → Type 0
IsNumberIn None n = ⊥
IsNumberIn (Some text) n = IsSpelled text n

-- the number that a text is, or this one if there is no text
abbrev pub IsNumberOr : ℕ → Option Text → ℕ → Type 0
IsNumberOr other None n = n ≡ other
IsNumberOr other (Some text) n = IsSpelled text n

-- the number that a text is, or 4 if there is no text
abbrev pub IsNumberOf : Option Text → ℕ → Type 0
IsNumberOf = IsNumberOr 4

-- the number that a text is, if there is a text
abbrev pub IsGiven : Option Text → Option ℕ → Type 0
IsGiven text None = text ≡ None
IsGiven text (Some n) = IsNumberIn text n

-- the text is there, and isn't a number below 256
abbrev pub IsNoNumber : Option Text → Type 0
IsNoNumber None = ⊥
IsNoNumber (Some text) = (n : ℕ) → n < 2 ^ 8 → IsSpelled text n → ⊥

-- an option without a value is given
abbrev pub is_asked : Option Text → Bool
is_asked None = false
is_asked (Some text) = bytes_eq text (codes "true")

-- what the rows have for the options of a replacement; without a number the group is 0
pub record AreOptions (rows : List Row) (o : ReplaceOptions) : Type 0 where
  pub group : IsNumberOr 0 (one_of (codes "group") rows) o.group
  pub configuration : IsGiven (one_of (codes "configuration") rows) o.configuration
  pub old : IsNumberIn (one_of (codes "out") rows) o.old
  pub new : IsNumberIn (one_of (codes "in") rows) o.new
  pub tail : o.is_tail ≡ is_asked (first_of (codes "tail") rows)
  pub direct : o.is_direct ≡ is_asked (first_of (codes "direct") rows)

-- what the rows have for the words of a new plan
pub record AreWords (rows : List Row) (r : PlanRequest) : Type 0 where
  pub members : option_map (λ w. w.now) r.members ≡ first_of (codes "members") rows
  pub zones : option_map (λ w. w.now) r.zones ≡ first_of (codes "zones") rows
  pub tail : option_map (λ w. w.now) r.tail ≡ first_of (codes "tail") rows
  pub weights : option_map (λ w. w.now) r.weights ≡ first_of (codes "weights") rows
  pub survive : option_map (λ w. w.now) r.survive ≡ first_of (codes "survive") rows

-- the rows have the options of the action
abbrev pub HasOptions : List Row → Action → Type 0
HasOptions rows Check = Unit {0}
HasOptions rows Run = Unit {0}
HasOptions rows Fleet = Unit {0}
HasOptions rows Search = Unit {0}
HasOptions rows Explain = Unit {0}
HasOptions rows (Replace options) = AreOptions rows options
HasOptions rows (Make making) = Unit {0}
HasOptions rows New = Unit {0}
HasOptions rows Draw = Unit {0}

-- the name of a plan's file is the one that the rows have; none is there for a subcommand that takes none
abbrev pub IsPlanName : Bool → Option Text → Text → Type 0
IsPlanName true given name = name ≡ []
IsPlanName false given name = given ≡ Some name

-- the name of the plan's file of a subcommand; `new` takes no such file
abbrev pub NamesPlan : Text → List Row → Text → Type 0
NamesPlan subcommand rows name = IsPlanName (bytes_eq subcommand (codes "new")) (first_of (codes "plan") rows) name

-- at most one of a plan and a script is standard input
abbrev pub AreApart : Text → Option Text → Type 0
AreApart plan None = Unit {0}
AreApart plan (Some script) = (plan ≢ codes "-") ⊎ (script ≢ codes "-")

-- the subcommand that clap entered, and what it has for each id
pub record IsJob (found : Option (Text × List Row)) (j : Job) : Type 0 where
  pub rows : List Row
  pub entered : found ≡ Some (name_of j.action, rows)
  pub plan : NamesPlan (name_of j.action) rows j.plan.now
  pub script : option_map (λ w. w.now) j.script ≡ first_of (codes "script") rows
  pub apart : AreApart j.plan.now (option_map (λ w. w.now) j.script)
  pub workers : IsNumberOf (one_of (codes "workers") rows) j.workers
  pub json : j.json ≡ is_asked (first_of (codes "json") rows)
  pub output : option_map (λ w. w.now) j.output ≡ first_of (codes "output") rows
  pub pretty : j.pretty ≡ is_asked (first_of (codes "pretty") rows)
  pub options : HasOptions rows j.action
  pub request : AreWords rows j.request
