use Rattle.std.proofs.Common.{◌≡◌, ◌-◌, ℕ, List, Some, length, sym, ap, subst, ◌∙◌}
use Rattle.std.proofs.lemmas.Option.{slice_get_within, get_or_from_slice_get}
use Rattle.std.specs.List.{slice_get}
use Rattle.std.specs.List.Sorted.{IsNonDecreasing}
use Rattle.recovery.proofs.Sought.{has, has-at, sought}
use Rattle.recovery.proofs.grounded_lsns.GroundedLsns.contains.Goals as goal

pub returns-then-last-number : goal.returns-then-last-number
returns-then-last-number c =
    let n : ℕ = c.args.number in
    let xs : List ℕ = c.deref.result.now in
    let k : ℕ = length xs - 1 in
    let at : slice_get xs k ≡ Some n = sym c.in-Some.ensures.value ∙ ap Some c.if-last-number.true in
    sym (has-at xs n k n (slice_get_within xs k n at) (get_or_from_slice_get xs k n n at)) ∙ ap (λ (ys : List ℕ). has ys n) c.deref.ensures.value

pub returns : goal.returns
returns c =
    let n : ℕ = c.args.number in
    c.is_ok.ensures.value
    ∙ sought c.deref-2.result.now n c.binary_search.result (subst IsNonDecreasing (sym c.deref-2.ensures.value) c.args.self.now.growing) c.binary_search.ensures.bound c.binary_search.ensures.position
    ∙ ap (λ (ys : List ℕ). has ys n) c.deref-2.ensures.value
