-- Branches of rules, put together.
use Rattle.std.proofs.Common.{◌≡◌, List, [], ◌∷◌, map, refl, ap}
use Rattle.serde_json.specs.Data.{no_items, item}
use Rattle.refutation.specs.declared.Refutation.{Refutation}
use Rattle.refutation.specs.Common.{branches_of, rule_of, branches_data}
use Rattle.plan.specs.Rules.{rule_data}
use Rattle.plan.proofs.Joined.{joined}

pub joined-rules : {A : Type 0} (rs : List (Refutation A)) → joined (map rule_data rs) no_items ≡ branches_data (branches_of (map rule_of rs))
joined-rules [] = refl
joined-rules (r ∷ rs) = ap (item (rule_data r)) (joined-rules rs)
