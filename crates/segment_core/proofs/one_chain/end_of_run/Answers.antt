use Rattle.std.proofs.Common.{◌≡◌, ◌<◌, ◌-◌, ◌∙◌, ◌++◌, ℕ, List, [], ◌∷◌, length, map, take, get_or, sym, ap, subst, arith}
use Rattle.std.proofs.lemmas.List.{get_or-map, length-map}
use Rattle.volume_model.specs.Common.{Redo}
use Rattle.redo_record.specs.Common.{IsGroupChain, shared_redo}
use Rattle.redo_record.specs.declared.shared_record.SharedRecord.{SharedRecord}
use Rattle.redo_record.proofs.Sets.{taken-more, taken-all}
use Rattle.segment_core.specs.OneChain.{IsOneChain}
use Rattle.segment_core.proofs.OneChains.{one_more_link, linked-chain}
use Rattle.segment_core.proofs.one_chain.end_of_run.Goals as goal

pub returns-then-is_group_chain : goal.returns-then-is_group_chain
returns-then-is_group_chain c =
    let packets : List SharedRecord = c.as_slice-packets.result.now in
    let xs : List Redo = map shared_redo packets in
    let n : length xs ≡ length packets = length-map packets shared_redo in
    let some : 0 < length packets = omega (arith, c.in-Some.ensures.item.3.0) in
    let first : (d : Redo) → (get_or xs 0 d).prev_group ≡ c.args.before = λ d. ap (λ (r : Redo). r.prev_group) (get_or-map shared_redo packets 0 c.in-Some.first.now d some ∙ ap shared_redo (sym (c.in-Some.ensures.item.3.1 c.in-Some.first.now))) ∙ sym c.prev_group.ensures ∙ c.if-prev_group-before.false in
    let last : (d : Redo) → (get_or xs (length packets - 1) d).lsn ≡ c.lsn.result = λ d. ap (λ (r : Redo). r.lsn) (get_or-map shared_redo packets (length packets - 1) c.in-Some-last.end.now d (omega arith) ∙ ap shared_redo (sym (c.in-Some-last.ensures.item.3.1 c.in-Some-last.end.now))) ∙ sym c.lsn.ensures in
    subst (λ (rs : List Redo). IsOneChain c.args.before rs c.lsn.result) c.as_slice-packets.ensures.records
    (linked-chain c.args.before (length packets - 1) c.lsn.result xs (subst IsGroupChain (sym c.as_slice-packets.ensures.records) (c.is_group_chain.ensures c.if-is_group_chain.true)) (omega arith) first last)

pub loop-packet-preserved : goal.loop-packet-preserved
loop-packet-preserved c =
    let packets : List SharedRecord = c.as_slice-packets.result.now in
    let k : ℕ = c.loop-packet.packet-index in
    let r : Redo = shared_redo c.packet-item.result in
    let one : IsOneChain c.args.before (take k (map shared_redo packets) ++ r ∷ []) r.lsn = one_more_link c.args.before c.loop-packet.last (take k (map shared_redo packets)) r c.loop-packet.invariant (sym c.prev_group-in-loop-packet.ensures ∙ c.if-prev_group-last.false) in
    subst (λ (rs : List Redo). IsOneChain c.args.before rs c.lsn-last.result) (sym (taken-more packets k c.packet-item.result c.loop-packet-test.true c.packet-item.is))
    (subst (λ (n : ℕ). IsOneChain c.args.before (take k (map shared_redo packets) ++ r ∷ []) n) (sym c.lsn-last.ensures) one)

pub returns : goal.returns
returns c = subst (λ (rs : List Redo). IsOneChain c.args.before rs c.loop-packet.last) (taken-all c.as_slice-packets.result.now c.loop-packet.packet-index c.loop-packet-test.false ∙ c.as_slice-packets.ensures.records) c.loop-packet.invariant
