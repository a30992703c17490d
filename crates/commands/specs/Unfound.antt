-- The lines of claims for which a search found no certificate.
use Rattle.std.specs.Prelude.{ℕ, List, [], ◌∷◌, ◌++◌, Option, Some, None, codes, if◌then◌else◌, is_none}
use Rattle.std.specs.Fmt.{decimal}
use Rattle.std.specs.List.{list_any}
use Rattle.refutation.specs.Common.{Rule}
use Rattle.plan.specs.Common.{claim_text, PlacedClaim}

-- the line of a claim without a certificate
abbrev pub claim_line : PlacedClaim → List ℕ
claim_line claim =
    codes "unfound: group " ++ decimal claim.group ++ codes " configuration " ++ decimal claim.configuration
    ++ codes " " ++ claim_text claim.step ++ codes "\n"

-- this line, and nothing for a claim that has a certificate
abbrev pub unfound_line : PlacedClaim → Option Rule → List ℕ
unfound_line claim None = claim_line claim
unfound_line claim (Some rule) = []

-- a line for each claim without a certificate, in the order of the claims
abbrev pub unfound_lines : List PlacedClaim → List (Option Rule) → List ℕ
unfound_lines [] rules = []
unfound_lines (claim ∷ claims) [] = []
unfound_lines (claim ∷ claims) (rule ∷ rules) = unfound_line claim rule ++ unfound_lines claims rules

-- 1 if a claim has no certificate, else 0
abbrev pub found_status : List (Option Rule) → ℕ
found_status rules = if list_any (λ rule. is_none rule) rules then 1 else 0
