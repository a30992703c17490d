use Rattle.std.proofs.Common.{◌≡◌, ℕ, ◌+◌, drop, get_or, ap, refl, sym, subst, ◌∙◌, ◌||◌}
use Rattle.std.specs.Ordering.{nat_cmp}
use Rattle.std.specs.FinSet.{contains, contains-empty}
use Rattle.volume_c.specs.Advances.{among}
use Rattle.volume_c.proofs.Amongst.{members-joins, members-stays}
use Rattle.volume_c.proofs.advance_calls.set_of.Goals as goal
use Rattle.volume_c.proofs.advance_calls.set_of.Goals.{then-member-lt64, else-member-lt64}

pub loop-member-init : goal.loop-member-init
loop-member-init c x =
    let rest = among c.args.members.now x in
    ap (λ s. contains s x || rest) c.empty-found.ensures ∙ ap (λ b. b || rest) (contains-empty nat_cmp x)

pub loop-member-preserved : goal.loop-member-preserved
loop-member-preserved c =
    let members = c.args.members.now in
    let i = c.loop-member.member-index in
    let m = get_or members i 0 in
    elim c.if-member-lt64.branch [
      | then-member-lt64 w ↦ subst (λ s. (x : ℕ) → (contains s x || among (drop (i + 1) members) x) ≡ among members x) (sym (w.found-is ∙ w.with-found.ensures))
          (members-joins members i m c.loop-member.found (among members) c.loop-member-test.true refl w.if-member-lt64.true c.loop-member.invariant)
      | else-member-lt64 w ↦ subst (λ s. (x : ℕ) → (contains s x || among (drop (i + 1) members) x) ≡ among members x) (sym w.found-is)
          (members-stays members i m c.loop-member.found (among members) c.loop-member-test.true refl w.if-member-lt64.false c.loop-member.invariant)
    ]
