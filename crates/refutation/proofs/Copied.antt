-- Lists that are copied entry by entry.
use Rattle.std.proofs.Common.{◌≡◌, ℕ, List, ap, ◌∙◌, sym, Result, Ok, Vec}
use Rattle.volume_model.specs.declared.fault.Fault.{Fault}
use Rattle.refutation.specs.declared.Side.{Side}
use Rattle.refutation.specs.declared.Refutation.{Refutation}
use Rattle.refutation.specs.declared.Refutation.TheVariants.{Dead, Clash, Pick, Match}
use Rattle.refutation.specs.Rule.{Rule, pick, pair_up, branches_of}
use Rattle.refutation.specs.Refutation.{rule_of}
use Rattle.refutation.specs.Forms.{rules_of}
use Rattle.refutation.proofs.Rules.{rule_of-Dead, rule_of-Clash, rule_of-Pick, rule_of-Match}

-- what a call gave is what its definition gives
pub given : (x y : Rule) → ◌≡◌ {A = Result Rule Fault} (Ok x) (Ok y) → y ≡ x
given x y h = cc

pub all_given : (xs ys : List Rule) → ◌≡◌ {A = Result (List Rule) Fault} (Ok xs) (Ok ys) → xs ≡ ys
all_given xs ys h = cc

pub dead-copied : {A : Type 0} (B : Type 0) (rule : Refutation A) (side : Side) (item : ℕ) → rule ≡ Dead side item → rule_of rule ≡ rule_of {A = B} (Dead side item)
dead-copied {A} B rule side item is = ap rule_of is ∙ rule_of-Dead A side item ∙ sym (rule_of-Dead B side item)

pub clash-copied : {A : Type 0} (B : Type 0) (rule : Refutation A) (left right : ℕ) → rule ≡ Clash left right → rule_of rule ≡ rule_of {A = B} (Clash left right)
clash-copied {A} B rule left right is = ap rule_of is ∙ rule_of-Clash A left right ∙ sym (rule_of-Clash B left right)

pub pick-copied : {A B : Type 0} (side : Side) (item : ℕ) (children : Vec ℕ A) (then : Vec (Refutation A) A) (rule : Refutation A) (copies : List (Refutation B)) → rule ≡ Pick side item children then → rules_of then.items ≡ rules_of copies
    → rule_of rule ≡ pick side item children.items (branches_of (rules_of copies))
pick-copied side item children then rule copies is same = ap rule_of is ∙ rule_of-Pick side item children then ∙ ap (λ rs. pick side item children.items (branches_of rs)) same

pub match-copied : {A B : Type 0} (left right : ℕ) (pairs : Vec (ℕ × ℕ) A) (then : Vec (Refutation A) A) (rule : Refutation A) (copies : List (Refutation B)) → rule ≡ Match left right pairs then → rules_of then.items ≡ rules_of copies
    → rule_of rule ≡ pair_up left right pairs.items (branches_of (rules_of copies))
match-copied left right pairs then rule copies is same = ap rule_of is ∙ rule_of-Match left right pairs then ∙ ap (λ rs. pair_up left right pairs.items (branches_of rs)) same
