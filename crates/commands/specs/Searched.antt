-- The printed text of a search.
use Rattle.std.specs.Prelude.{◌≡◌, ◌⊎◌, ℕ, ◌-◌, ◌<◌, ◌≤◌, List, ◌++◌, length, replicate, Option, None, Result, Ok, Err, codes}
use Rattle.refutation.specs.Common.{Rule}
use Rattle.plan.specs.declared.fault.PlanFault.{PlanFault}
use Rattle.plan.specs.Common.{KeepsValues, PlanData, plan_fault, ◌>=>◌, plan_of, PlacedClaim, claims_in, with_certificates, IsCompact, rewritten, spelt}
use Rattle.cert_search.specs.Answers.{AreAnswers}
use Rattle.cert_search.specs.Kept.{AreKept}
use Rattle.commands.specs.Answer.{Answer, fault_answer}
use Rattle.commands.specs.Unfound.{found_status, unfound_lines}

-- the claims of a text's plan, or the first fault of the text or of its claims
abbrev pub claims_of : List ℕ → Result (List PlacedClaim) PlanFault
claims_of text = plan_of text >=> claims_in

-- A line of compact JSON with this plan, and with all values of the source text but its certificates; expressions are
-- as the source has them.
pub record IsPlanLine (source : List ℕ) (plan : PlanData) (line : List ℕ) : Type 0 where
  pub text : List ℕ
  pub spelled : spelt text ≡ Ok plan
  pub compact : IsCompact text
  pub kept : KeepsValues source text
  pub line_is : line ≡ text ++ codes "\n"

-- a line of compact JSON with the plan of a text and these certificates
abbrev pub IsLineWith : List ℕ → List (Option Rule) → List ℕ → Type 0
IsLineWith text rules line = (plan : PlanData) × (rewritten text rules ≡ Ok plan) × IsPlanLine text plan line

-- the bytes that the line of a text's plan without certificates leaves in 16,777,216 bytes
abbrev pub IsRoom : List ℕ → ℕ → ℕ → Type 0
IsRoom text places room = (line : List ℕ) × IsLineWith text (replicate places None) line
    × (room ≡ 16777216 - length line)

-- All certificates are kept if the line with them has at most 16,777,216 bytes; else the shortest are, as many as fit.
abbrev pub AreFitted : List ℕ → List (Option Rule) → List (Option Rule) → Type 0
AreFitted text found kept =
    ((line : List ℕ) × IsLineWith text found line × (length line ≤ 16777216) × (kept ≡ found))
    ⊎ ((line : List ℕ) × (room : ℕ) × IsLineWith text found line × (16777216 < length line) × IsRoom text (length found)
    room × AreKept room found kept)

-- The plan's text has a plan with claims. The printed line has this plan, with its expressions as written and with the
-- certificates found with a budget of 100,000 that fit; another line is printed for each claim without one. The status
-- is 0 exactly if there is no such line, and then the printed plan has no fault.
pub record PrintsSearch (plan : List ℕ) (status : ℕ) (text notes : List ℕ) : Type 0 where
  pub data_of : PlanData
  pub spelled : plan_of plan ≡ Ok data_of
  pub claims : List PlacedClaim
  pub listed : claims_in data_of ≡ Ok claims
  pub found : List (Option Rule)
  pub answers : AreAnswers 100000 claims found
  pub rules : List (Option Rule)
  pub fitted : AreFitted plan found rules
  pub line : IsPlanLine plan (with_certificates data_of rules) text
  pub notes_are : notes ≡ unfound_lines claims rules
  pub status_is : status ≡ found_status rules
  pub faultless : status ≡ 0 → plan_fault (with_certificates data_of rules) ≡ None

-- the answer of a search to a plan's text: the first fault of the text or of its claims, or what was found
abbrev pub SearchesTo : List ℕ → Answer → Type 0
SearchesTo text answer = ((fault : PlanFault) × (claims_of text ≡ Err fault) × (answer ≡ fault_answer fault))
    ⊎ PrintsSearch text answer.status answer.out answer.err
