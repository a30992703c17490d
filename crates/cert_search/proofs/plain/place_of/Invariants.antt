use Rattle.std.proofs.Common.{◌≡◌, drop}
use Rattle.std.specs.List.{position_from}
use Rattle.quorum_expr.specs.Common.{formulas_of}
use Rattle.cert_search.specs.Plain.{is_member, place_of}
use Rattle.cert_search.proofs.plain.place_of.Given as goal

-- it stands among those that are left, if at all
abbrev pub invariant-loop-j : goal.invariant-loop-j
invariant-loop-j g l = place_of l.member (formulas_of l.others) ≡ position_from (is_member l.member) l.j (formulas_of (drop l.j l.others))
