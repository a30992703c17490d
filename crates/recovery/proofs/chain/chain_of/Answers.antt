use Rattle.std.proofs.Common.{◌≡◌, ◌∙◌, ℕ, true, List, [], map, take, sym, ap, subst}
use Rattle.std.proofs.lemmas.Result.{IfOk-weaker}
use Rattle.volume_model.specs.Common.{added, Redo, chain_from, chain_or_none}
use Rattle.redo_record.specs.declared.shared_record.SharedRecord.{SharedRecord}
use Rattle.redo_record.specs.declared.record_set.RecordSet.{RecordSet}
use Rattle.redo_record.specs.Common.{IsInOrder, shared_redo, records_of}
use Rattle.writer_core.specs.Logs.{log_of, log_of_set, is_growing}
use Rattle.recovery.specs.Chains.{is_chain_to}
use Rattle.recovery.proofs.Cuts.{set-back}
use Rattle.recovery.proofs.Sharing.{front-chain, front-grows, grown-in_order}
use Rattle.recovery.proofs.chain.chain_of.Goals as goal

-- the log that the front is
found : (records set : RecordSet) (len n : ℕ) → is_growing (log_of_set records) ≡ true → is_chain_to n (added (take len (records_of records)) []) ≡ true → records_of set ≡ take len (records_of records) → log_of_set set ≡ chain_or_none (chain_from n (log_of_set records) n)
found records set len n growing chains is =
    ap (λ (rs : List Redo). added rs []) is ∙ sym (ap chain_or_none (front-chain (records_of records) len n growing (set-back records) chains))

pub returns-in-Some-clause-chain : goal.returns-in-Some-clause-chain
returns-in-Some-clause-chain c =
    IfOk-weaker c.front.result _ _ (λ set h. found c.args.records.now set c.in-Some.len c.args.lsn c.requires.growing c.in-Some.ensures.chain h) c.front.ensures

pub returns-in-Some-clause-growing : goal.returns-in-Some-clause-growing
returns-in-Some-clause-growing c =
    let records : List Redo = records_of c.args.records.now in
    IfOk-weaker c.front.result _ _ (λ set h. ap (λ (rs : List Redo). is_growing (added rs [])) h ∙ front-grows records c.in-Some.len c.requires.growing) c.front.ensures

pub from_slice-requires : goal.from_slice-requires
from_slice-requires c =
    let packets : List SharedRecord = c.in_ok-packets.packets.items in
    subst (λ (ps : List SharedRecord). IsInOrder (map shared_redo ps)) (sym c.deref.ensures.value) (grown-in_order (map shared_redo packets) c.in_ok-packets.ensures.growing)

-- the log of what was picked out
picked : (set : RecordSet) (read packets : List SharedRecord) → read ≡ packets → records_of set ≡ map shared_redo read → log_of_set set ≡ log_of packets
picked set read packets same is = ap (λ (rs : List Redo). added rs []) (is ∙ ap (λ (ps : List SharedRecord). map shared_redo ps) same)

pub returns-clause-chain : goal.returns-clause-chain
returns-clause-chain c =
    ap (λ (rs : List Redo). added rs []) c.share.ensures
    ∙ picked c.in_ok-log.log c.deref.result.now c.in_ok-packets.packets.items c.deref.ensures.value c.in_ok-log.ensures
    ∙ c.in_ok-packets.ensures.chain

pub returns-clause-growing : goal.returns-clause-growing
returns-clause-growing c =
    ap (λ (rs : List Redo). is_growing (added rs [])) c.share.ensures
    ∙ ap is_growing (picked c.in_ok-log.log c.deref.result.now c.in_ok-packets.packets.items c.deref.ensures.value c.in_ok-log.ensures)
    ∙ c.in_ok-packets.ensures.growing
