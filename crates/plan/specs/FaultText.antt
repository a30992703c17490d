-- How a plan's faults are printed.
use Rattle.std.specs.Prelude.{ℕ, List, ◌++◌, Bool, true, false, codes}
use Rattle.std.specs.Fmt.{decimal}
use Rattle.plan.specs.declared.fault.Quorum.{Quorum}
use Rattle.plan.specs.declared.fault.Quorum.TheVariants.{Read, Write}

-- the name of an expression
abbrev pub quorum_text : Quorum → List ℕ
quorum_text Read = codes "read"
quorum_text Write = codes "write"

-- the name of a claim
abbrev pub claim_text : Bool → List ℕ
claim_text true = codes "step"
claim_text false = codes "meets"

-- the beginning of a line: input if the text isn't a plan's, no if the plan is refused
abbrev pub verdict_text : Bool → List ℕ
verdict_text true = codes "input"
verdict_text false = codes "no"

-- a configuration's group and number
abbrev pub place_text : ℕ → ℕ → List ℕ
place_text g c = codes "group " ++ (decimal g ++ (codes " configuration " ++ decimal c))
