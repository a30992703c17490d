use Rattle.std.proofs.Common.{◌≡◌, ◌<◌, ◌+◌, ℕ, List, Some, None, length, drop, refl, sym, subst, ap, ◌∙◌, arith}
use Rattle.std.proofs.lemmas.Option.{slice_get_within}
use Rattle.std.specs.List.{slice_get}
use Rattle.volume_model.specs.Common.{Redo}
use Rattle.redo_record.specs.Common.{records_of, runs_of, index_of, shared_redo}
use Rattle.segment_core.specs.Chains as chains
use Rattle.segment_core.specs.Chains.{IsFoundAt}
use Rattle.segment_core.proofs.Lines.{chain-on, chain-ends, drop-here, drop-past}
use Rattle.segment_core.proofs.line.chain_end.Goals as goal

pub loop-next-init : goal.loop-next-init
loop-next-init c = record { inside = c.requires.within; here = c.requires.found; same = refl }

pub returns-then-prev_group-last : goal.returns-then-prev_group-last
returns-then-prev_group-last c =
    let records : List Redo = records_of c.args.set.now in
    let i : ℕ = index_of (runs_of c.args.set.now) c.loop-next.at in
    let r : Redo = shared_redo c.in-Some.packet.now in
    let here : Some r ≡ slice_get records i = subst (IsFoundAt c.args.set.now c.loop-next.at) c.in-Some.is c.loop-next.invariant.here in
    sym (ap (chains.chain_end c.loop-next.last) (drop-here records i r here) ∙ chain-ends c.loop-next.last r (drop (i + 1) records) (λ e. c.if-prev_group-last.true (c.prev_group.ensures ∙ e))) ∙ c.loop-next.invariant.same

pub next-at-requires-clause-some : goal.next-at-requires-clause-some
next-at-requires-clause-some c =
    slice_get_within (records_of c.args.set.now) (index_of (runs_of c.args.set.now) c.loop-next.at) (shared_redo c.in-Some.packet.now) (sym (subst (IsFoundAt c.args.set.now c.loop-next.at) c.in-Some.is c.loop-next.invariant.here))

pub loop-next-smaller : goal.loop-next-smaller
loop-next-smaller c =
    let records : List Redo = records_of c.args.set.now in
    let i : ℕ = index_of (runs_of c.args.set.now) c.loop-next.at in
    let here : Some (shared_redo c.in-Some.packet.now) ≡ slice_get records i = subst (IsFoundAt c.args.set.now c.loop-next.at) c.in-Some.is c.loop-next.invariant.here in
    let some : i < length records = slice_get_within records i (shared_redo c.in-Some.packet.now) (sym here) in
    omega (arith, c.next-at.ensures.next)

pub loop-next-preserved : goal.loop-next-preserved
loop-next-preserved c =
    let records : List Redo = records_of c.args.set.now in
    let i : ℕ = index_of (runs_of c.args.set.now) c.loop-next.at in
    let r : Redo = shared_redo c.in-Some.packet.now in
    let here : Some r ≡ slice_get records i = subst (IsFoundAt c.args.set.now c.loop-next.at) c.in-Some.is c.loop-next.invariant.here in
    let links : r.prev_group ≡ c.loop-next.last = sym c.prev_group.ensures ∙ c.if-prev_group-last.false in
    record {
      inside = c.next-at.ensures.within;
      here = c.get-next.ensures;
      same =
          ap (λ (k : ℕ). chains.chain_end c.lsn-last.result (drop k records)) c.next-at.ensures.next
          ∙ ap (λ (n : ℕ). chains.chain_end n (drop (i + 1) records)) c.lsn-last.ensures
          ∙ sym (chain-on c.loop-next.last r (drop (i + 1) records) links)
          ∙ ap (chains.chain_end c.loop-next.last) (sym (drop-here records i r here))
          ∙ c.loop-next.invariant.same;
    }

pub returns : goal.returns
returns c =
    let records : List Redo = records_of c.args.set.now in
    let i : ℕ = index_of (runs_of c.args.set.now) c.loop-next.at in
    let here : None ≡ slice_get records i = subst (IsFoundAt c.args.set.now c.loop-next.at) c.in_default.is c.loop-next.invariant.here in
    ap (chains.chain_end c.loop-next.last) (sym (drop-past records i here)) ∙ c.loop-next.invariant.same
