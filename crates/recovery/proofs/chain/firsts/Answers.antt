use Rattle.std.proofs.Common.{◌≡◌, ◌<◌, ◌≤◌, List, [], ◌∷◌, ◌++◌, refl, inl, inr, sym, ap, ap₂, ◌∙◌, subst, arith, ◌&&◌, append_assoc, append-nil, lt-ltb}
use Rattle.volume_model.specs.Common.{IsIn, added, Redo, last_lsn, record_at}
use Rattle.redo_record.specs.Common.{IsInOrder, shared_redo, left_of, records_of}
use Rattle.redo_record.proofs.KeptRanges.{shared_redo-ranges}
use Rattle.writer_core.specs.Logs.{log_of_set, is_growing}
use Rattle.recovery.proofs.Sharing.{added-more, copy-grows, copy-same, greater-after}
use Rattle.recovery.proofs.Firsts.{find, find-is, find-new, find-same, order-next}
use Rattle.recovery.proofs.chain.firsts.Goals as goal

pub loop-packet-init : goal.loop-packet-init
loop-packet-init c =
    let none : records_of c.new-firsts.result ≡ [] = c.new-firsts.ensures in
    let log : log_of_set c.new-firsts.result ≡ [] = ap (λ (rs : List Redo). added rs []) none in (
      [],
      record {
        all = c.records-left.ensures.records;
        in_order = subst IsInOrder (sym c.records-left.ensures.records) c.records-left.ensures.in_order;
        growing = ap is_growing log;
        last = sym (ap last_lsn log);
        same = λ n. ap (λ l. record_at l n) log;
        low = λ r i. omega arith;
      },
    )

pub loop-packet-preserved-in_ok-push : goal.loop-packet-preserved-in_ok-push
loop-packet-preserved-in_ok-push c =
    let done : List Redo = c.loop-packet.invariant.0 in
    let inv = c.loop-packet.invariant.1 in
    let r : Redo = shared_redo c.in-Some.packet.now in
    let rest : List Redo = left_of c.next.new.self in
    let next : left_of c.loop-packet.left ≡ r ∷ rest = c.in-Some.ensures.records in
    let order = order-next r rest (subst IsInOrder next inv.in_order) in
    let log : List Redo = log_of_set c.loop-packet.firsts in
    let now : log_of_set c.push.new.self ≡ r ∷ log =
    ap (λ (rs : List Redo). added rs []) c.in_ok-push.ensures.ok ∙ added-more (records_of c.loop-packet.firsts) (shared_redo c.in_ok-clone.field-0) [] ∙ ap (λ s. s ∷ log) c.in_ok-clone.ensures.cases in
    let up : last_lsn log < r.lsn = subst (λ m. m < r.lsn) inv.last (subst (λ m. c.loop-packet.last < m) c.lsn.ensures c.if-last-lsn.true) in (
      done ++ r ∷ [],
      record {
        all = append_assoc done (r ∷ []) rest ∙ ap (λ (rs : List Redo). done ++ rs) (sym next) ∙ inv.all;
        in_order = order.1;
        growing = ap is_growing now ∙ ap₂ (λ a b. a && b) (lt-ltb (last_lsn log) r.lsn up) inv.growing;
        last = c.lsn-last.ensures ∙ sym (ap last_lsn now);
        same = λ n. ap (λ l. record_at l n) now ∙ find-new done r log inv.growing up inv.same n;
        low = λ s i. subst (λ m. m ≤ s.lsn) (sym c.lsn-last.ensures) (order.0 s i);
      },
    )

pub loop-packet-preserved : goal.loop-packet-preserved
loop-packet-preserved c =
    let done : List Redo = c.loop-packet.invariant.0 in
    let inv = c.loop-packet.invariant.1 in
    let r : Redo = shared_redo c.in-Some.packet.now in
    let rest : List Redo = left_of c.next.new.self in
    let next : left_of c.loop-packet.left ≡ r ∷ rest = c.in-Some.ensures.records in
    let order = order-next r rest (subst IsInOrder next inv.in_order) in
    let log : List Redo = log_of_set c.loop-packet.firsts in
    let least : c.loop-packet.last ≤ r.lsn = inv.low r (subst (IsIn r) (sym next) (inl refl)) in
    let most : r.lsn ≤ c.loop-packet.last = subst (λ m. m ≤ c.loop-packet.last) c.lsn.ensures c.if-last-lsn.false in
    let at : last_lsn log ≡ r.lsn = omega (arith, inv.last, least, most) in (
      done ++ r ∷ [],
      record {
        all = append_assoc done (r ∷ []) rest ∙ ap (λ (rs : List Redo). done ++ rs) (sym next) ∙ inv.all;
        in_order = order.1;
        growing = inv.growing;
        last = inv.last;
        same = λ n. find-same done r log inv.growing (shared_redo-ranges c.in-Some.packet.now).lsn_positive at inv.same n;
        low = λ s i. inv.low s (subst (IsIn s) (sym next) (inr i));
      },
    )

pub push-requires : goal.push-requires
push-requires c =
    let inv = c.loop-packet.invariant.1 in
    let r : Redo = shared_redo c.in-Some.packet.now in
    let copy : Redo = shared_redo c.in_ok-clone.field-0 in
    let up : last_lsn (log_of_set c.loop-packet.firsts) < r.lsn = subst (λ m. m < r.lsn) inv.last (subst (λ m. c.loop-packet.last < m) c.lsn.ensures c.if-last-lsn.true) in
    greater-after (records_of c.loop-packet.firsts) copy inv.growing (subst (λ (s : Redo). last_lsn (log_of_set c.loop-packet.firsts) < s.lsn) (sym c.in_ok-clone.ensures.cases) up)

pub returns-clause-growing : goal.returns-clause-growing
returns-clause-growing c = ap (λ (rs : List Redo). is_growing (added rs [])) c.share.ensures ∙ c.loop-packet.invariant.1.growing

pub returns-clause-same : goal.returns-clause-same
returns-clause-same c n =
    let done : List Redo = c.loop-packet.invariant.0 in
    let inv = c.loop-packet.invariant.1 in
    let records : List Redo = records_of c.args.set.now in
    let whole : done ≡ records = sym (append-nil done) ∙ ap (λ (rs : List Redo). done ++ rs) (sym c.in_default.ensures.records) ∙ inv.all in
    ap (λ (rs : List Redo). record_at (added rs []) n) c.share.ensures ∙ inv.same n ∙ ap (λ l. find l n) whole ∙ sym (find-is records c.records-left.ensures.in_order n)

-- no number stands twice
pub returns-then-are_growing-clause-growing : goal.returns-then-are_growing-clause-growing
returns-then-are_growing-clause-growing c = copy-grows _ c.clone.result c.args.set.now (sym c.are_growing.ensures ∙ c.if-are_growing.true) c.clone.ensures.cases

pub returns-then-are_growing-clause-same : goal.returns-then-are_growing-clause-same
returns-then-are_growing-clause-same c = copy-same _ c.clone.result c.args.set.now (sym c.are_growing.ensures ∙ c.if-are_growing.true) c.clone.ensures.cases
