use Rattle.std.proofs.Common.{◌≡◌, ℕ, List, Bool, true, false, cond, Option, option_map, Some, None, refl, sym, ap, ◌∙◌, subst, arith}
use Rattle.std.specs.Str.{bytes_eq}
use Rattle.json.specs.Json.{Json, object, no_members}
use Rattle.json.specs.Find.{NextMember, Finds, later_or, get_member, get, as_object}
use Rattle.quorum_expr.proofs.on_tape.find.Goals as goal
use Rattle.std.proofs.lemmas.Grind.{common_steps}

get_nothing : (name : List ℕ) (j : Json) → as_object j ≡ None → Finds None (get name j)
get_nothing name (object ms) h = absurd (cc)
get_nothing name j h = refl

or_none : (o : Option Json) → o ≡ later_or o None
or_none None = refl
or_none (Some j) = refl

newer : (o : Option Json) (j : Json) (p : Option Json) → later_or (later_or o (Some j)) p ≡ later_or o (Some j)
newer None j p = refl
newer (Some k) j p = refl

pub returns-in_err-members : goal.returns-in_err-members
returns-in_err-members c j begins = grind (arith, common_steps, c.in_err-members.ensures, None, get_nothing)

pub loop-name-init : goal.loop-name-init
loop-name-init c j begins =
    let shape = c.in_ok-members.ensures j begins in
    (shape.0, None, shape.2, refl, ap (get c.args.key.now) shape.1 ∙ or_none _)

pub loop-name-preserved-then-is_equal : goal.loop-name-preserved-then-is_equal
loop-name-preserved-then-is_equal c j begins =
    let name = c.args.key.now in
    let now = c.loop-name.invariant j begins in
    let f = c.in-Some.ensures.value now.0 now.2 in
    let turn = now.4 ∙ ap (λ ms. later_or (get_member name ms) now.1) f.2 in
    let pick = λ (b : Bool). later_or (later_or (get_member name f.1) (cond b (Some f.0) None)) now.1 in
    let same : bytes_eq c.in-Some.name.now name ≡ true = grind arith in
    (f.1, Some f.0, f.4, (f.0, refl, f.3), turn ∙ ap pick same ∙ newer (get_member name f.1) f.0 now.1)

pub loop-name-preserved : goal.loop-name-preserved
loop-name-preserved c j begins =
    let name = c.args.key.now in
    let now = c.loop-name.invariant j begins in
    let f = c.in-Some.ensures.value now.0 now.2 in
    let turn = now.4 ∙ ap (λ ms. later_or (get_member name ms) now.1) f.2 in
    let pick = λ (b : Bool). later_or (later_or (get_member name f.1) (cond b (Some f.0) None)) now.1 in
    let other : bytes_eq c.in-Some.name.now name ≡ false = grind arith in
    (f.1, now.1, f.4, now.3, turn ∙ ap pick other ∙ ap (λ o. later_or o now.1) (sym (or_none _)))

pub returns : goal.returns
returns c j begins =
    let now = c.loop-name.invariant j begins in
    let done : now.0 ≡ no_members = subst (λ r. NextMember c.loop-name.members (option_map (λ m. (m.0.now, m.1)) r) c.next.new.self) c.in_default.is c.next.ensures.value now.0 now.2 in
    subst (Finds c.loop-name.found) (sym (now.4 ∙ ap (λ ms. later_or (get_member c.args.key.now ms) now.1) done)) now.3
