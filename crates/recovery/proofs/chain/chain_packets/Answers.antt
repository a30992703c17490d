use Rattle.std.proofs.Common.{◌≡◌, ◌∙◌, ℕ, ◌<◌, List, Some, None, map, sym, ap, ap₂, arith}
use Rattle.volume_model.specs.Common.{Redo, record_at, chain_or_none}
use Rattle.volume_model.proofs.Chains.{record_at-some}
use Rattle.redo_record.specs.declared.record_set.RecordSet.{RecordSet}
use Rattle.redo_record.specs.declared.shared_record.SharedRecord.{SharedRecord}
use Rattle.redo_record.specs.Common.{shared_redo, records_of}
use Rattle.writer_core.specs.Logs.{log_of, log_of_set, is_growing}
use Rattle.writer_core.proofs.Joined.{growing-same}
use Rattle.recovery.proofs.Links.{chain, chain_from-is}
use Rattle.recovery.proofs.Cuts.{set-back}
use Rattle.recovery.proofs.Ends.{then_chain, then_nil, one-pushed, chain-read, chain-ends, log_of-reverse, chain-grows}
use Rattle.recovery.proofs.chain.chain_packets.Goals as goal

pub loop-packet-init : goal.loop-packet-init
loop-packet-init c =
    sym (ap (λ (ps : List SharedRecord). then_chain (map shared_redo ps) (chain (log_of_set c.args.records.now) c.args.lsn)) c.new-log.ensures.items ∙ then_nil (chain (log_of_set c.args.records.now) c.args.lsn))

pub loop-packet-preserved : goal.loop-packet-preserved
loop-packet-preserved c =
    let records : RecordSet = c.args.records.now in
    let r : Redo = shared_redo c.in-Some.packet.now in
    let found : record_at (log_of_set records) c.loop-packet.next ≡ Some r = growing-same (records_of records) c.requires.growing c.loop-packet.next ∙ sym c.in-Some.ensures in
    chain-read (log_of_set records) c.requires.growing (set-back records) (map shared_redo c.loop-packet.log.items) c.args.lsn c.loop-packet.next r found c.loop-packet.invariant
    ∙ ap₂ (λ read n. then_chain read (chain (log_of_set records) n)) (sym (one-pushed c.loop-packet.log.items c.push.new.self.items c.in_ok-clone.field-0 r c.in_ok-push.ensures.items c.in_ok-clone.ensures.cases)) (ap (λ (s : Redo). s.prev_volume) (sym c.«record».ensures))

pub loop-packet-smaller : goal.loop-packet-smaller
loop-packet-smaller c =
    let records : RecordSet = c.args.records.now in
    let r : Redo = shared_redo c.in-Some.packet.now in
    let found : record_at (log_of_set records) c.loop-packet.next ≡ Some r = growing-same (records_of records) c.requires.growing c.loop-packet.next ∙ sym c.in-Some.ensures in
    let (i, at) = record_at-some (log_of_set records) c.loop-packet.next r found in
    let same : c.«record».result.now.lsn ≡ r.lsn = ap (λ (s : Redo). s.lsn) c.«record».ensures in
    let below : c.«record».result.now.prev_volume < c.«record».result.now.lsn = c.«record».result.now.prev_volume_before in
    omega (arith, at, same, below)

pub returns-clause-chain : goal.returns-clause-chain
returns-clause-chain c =
    let records : RecordSet = c.args.records.now in
    let read : List Redo = map shared_redo c.loop-packet.log.items in
    let none : record_at (log_of_set records) c.loop-packet.next ≡ None = growing-same (records_of records) c.requires.growing c.loop-packet.next ∙ sym c.in_default.ensures in
    let whole = chain-ends (log_of_set records) c.requires.growing (set-back records) read c.args.lsn c.loop-packet.next none c.requires.there c.loop-packet.invariant in
    ap log_of c.reverse.ensures.items ∙ log_of-reverse c.loop-packet.log.items ∙ sym (ap chain_or_none whole)

pub returns-clause-growing : goal.returns-clause-growing
returns-clause-growing c =
    let records : RecordSet = c.args.records.now in
    let log : List Redo = log_of_set records in
    let n : ℕ = c.args.lsn in
    let read : List Redo = map shared_redo c.loop-packet.log.items in
    let none : record_at log c.loop-packet.next ≡ None = growing-same (records_of records) c.requires.growing c.loop-packet.next ∙ sym c.in_default.ensures in
    let whole = chain-ends log c.requires.growing (set-back records) read n c.loop-packet.next none c.requires.there c.loop-packet.invariant in
    let grows = chain-grows log c.requires.growing (set-back records) n read (sym (chain_from-is log c.requires.growing (set-back records) n n (omega arith)) ∙ whole) in
    ap (λ (l : List Redo). is_growing l) (ap log_of c.reverse.ensures.items ∙ log_of-reverse c.loop-packet.log.items) ∙ grows.0
