use Rattle.std.proofs.Common.{◌≡◌, ℕ, Some, length, vec_len, sym, ap, ◌∙◌, subst, arith, rules, slice_get}
use Rattle.std.proofs.lemmas.Option.{slice_get_within}
use mathlib.Core.Logic.{dite}
use native.Mathlib.Decide.{ℕ_discrete}
use Rattle.node_fleet.specs.Mail.{AreKept}
use Rattle.node_fleet.specs.Mails.{back_at}
use Rattle.node_fleet.proofs.Back.{some_there}
use Rattle.node_fleet.proofs.mailboxes.Mailboxes.end.Goals as goal

pub recall_one-requires-clause-slot : goal.recall_one-requires-clause-slot
recall_one-requires-clause-slot c =
    let count : vec_len c.args.self.boxes ≡ length c.args.self.boxes.items = search rules in
    some_there c.args.self.boxes.items c.loop-slot.slot (omega (arith, c.loop-slot-test.true, c.len-slot-end.ensures, count))

pub loop-slot-preserved : goal.loop-slot-preserved
loop-slot-preserved c =
    let inv = c.loop-slot.invariant in
    let slot : ℕ = c.loop-slot.slot in
    record {
      back = c.recall_one.ensures.back;
      same = λ k. c.recall_one.ensures.same k ∙ inv.same k;
      kept = λ k m lt has.
          dite (ℕ_discrete k slot)
          (λ (e : k ≡ slot).
          let here : AreKept (back_at c.args.all slot) = subst AreKept (inv.same slot) (c.recall_one.ensures.kept m (ap (slice_get c.args.self.boxes.items) (sym e) ∙ has)) in
          subst (λ (n : ℕ). AreKept (back_at c.args.all n)) (sym e) here)
          (λ apart. inv.kept k m (omega (arith, lt, apart)) has);
    }

pub returns : goal.returns
returns c slot m has =
    let lt = slice_get_within c.args.self.boxes.items slot (Some m) has in
    let count : vec_len c.args.self.boxes ≡ length c.args.self.boxes.items = search rules in
    c.loop-slot.invariant.kept slot m (omega (arith, lt, count, c.loop-slot-test.false, c.len-slot-end.ensures)) has
