use Rattle.std.proofs.Common.{◌≡◌, List, [], Ok, is_some, refl, sym, ap, ◌∙◌}
use Rattle.volume_model.specs.Common.{added, Redo, chain_from, chain_or_none, cut_of}
use Rattle.redo_record.specs.declared.record_set.RecordSet.{RecordSet}
use Rattle.redo_record.specs.Common.{records_of}
use Rattle.writer_core.specs.Logs.{log_of_set, is_growing}
use Rattle.recovery.proofs.Leaves.{cut-there, log-same, cut-same, is_value}
use Rattle.recovery.proofs.OneChain.{one_chain-cut, one_chain-grows, one_chain-log}
use Rattle.recovery.proofs.Sharing.{front-grows}
use Rattle.recovery.proofs.finding.cut_and_log.Goals as goal

pub chain_of-requires-clause-there : goal.chain_of-requires-clause-there
chain_of-requires-clause-there c =
    let first : RecordSet = c.in_ok-records.records in
    let cut : c.in_ok-cut.cut ≡ cut_of (log_of_set first) = is_value (cut_of (log_of_set first)) c.in_ok-cut.cut c.in_ok-cut.ensures in
    ap (λ n. is_some (chain_from n (log_of_set first) n)) cut ∙ cut-there (log_of_set first)

pub returns-clause-cut : goal.returns-clause-cut
returns-clause-cut c =
    let first : RecordSet = c.in_ok-records.records in
    let cut : c.in_ok-cut.cut ≡ cut_of (log_of_set first) = is_value (cut_of (log_of_set first)) c.in_ok-cut.cut c.in_ok-cut.ensures in
    ap Ok (sym (cut ∙ cut-same (log_of_set first) (records_of c.args.records.now) c.in_ok-records.ensures.same))

pub returns-clause-log : goal.returns-clause-log
returns-clause-log c =
    let first : RecordSet = c.in_ok-records.records in
    let cut : c.in_ok-cut.cut ≡ cut_of (log_of_set first) = is_value (cut_of (log_of_set first)) c.in_ok-cut.cut c.in_ok-cut.ensures in
    c.in_ok-log.ensures.chain ∙ ap (λ n. chain_or_none (chain_from n (log_of_set first) n)) cut ∙ log-same (log_of_set first) (records_of c.args.records.now) c.in_ok-records.ensures.same

pub returns-then-is_one_chain-clause-cut : goal.returns-then-is_one_chain-clause-cut
returns-then-is_one_chain-clause-cut c = ap Ok (sym (c.last_point-len.ensures.lsn ∙ one_chain-cut c.args.records.now (c.if-is_one_chain.ensures refl)))

pub returns-then-is_one_chain-clause-log : goal.returns-then-is_one_chain-clause-log
returns-then-is_one_chain-clause-log c = one_chain-log c.args.records.now (c.if-is_one_chain.ensures refl) c.in_ok-front.front c.last_point-len.result.0 c.last_point-len.ensures.count c.in_ok-front.ensures

pub returns-then-is_one_chain-clause-growing : goal.returns-then-is_one_chain-clause-growing
returns-then-is_one_chain-clause-growing c =
    ap (λ (rs : List Redo). is_growing (added rs [])) c.in_ok-front.ensures ∙ front-grows (records_of c.args.records.now) c.last_point-len.result.0 (one_chain-grows c.args.records.now (c.if-is_one_chain.ensures refl))
