use Rattle.std.proofs.Common.{rules, nat_lt, List, Option, sym, ap, option_map, ◌∙◌, arith}
use Rattle.std.specs.Borrow.{Bor}
use Rattle.std.specs.Option.{option_copied}
use Rattle.std.proofs.lemmas.List.Sorted.{IsPartitionPoint-from_clause, IsPartitionedBy-ltb}
use Rattle.redo_record.specs.declared.shared_record.SharedRecord.{SharedRecord}
use Rattle.redo_record.specs.Common.{shared_redo}
use Rattle.writer_core.proofs.Finding.{lsn-rises, record-found, record-missing}
use Rattle.writer_core.proofs.lookup.record_at.Goals as goal
use Rattle.std.proofs.lemmas.Grind.{common_steps}

pub returns-in_err-packet : goal.returns-in_err-packet
returns-in_err-packet c =
    let log : List SharedRecord = c.args.log.now in
    let n = c.args.lsn in
    let point = IsPartitionPoint-from_clause (λ (p : SharedRecord). nat_lt (shared_redo p).lsn n) _ _ c.partition_point-place.ensures.partitioned (IsPartitionedBy-ltb (λ (p : SharedRecord). (shared_redo p).lsn) log n (lsn-rises log c.requires)) (λ a s q k. search rules) in
    ap (λ (found : Option (Bor SharedRecord)). option_map shared_redo (option_copied found)) c.from_residual.ensures ∙ sym (record-missing log c.partition_point-place.result n c.requires point (λ d within. absurd (omega (arith, c.in_err-packet.ensures.lookup.3))))

pub returns-then-lsn : goal.returns-then-lsn
returns-then-lsn c = grind (arith, common_steps, c.in_ok-packet.ensures.lookup, c.requires, c.lsn.ensures, c.if-lsn.true, record-found)

pub returns-else-lsn : goal.returns-else-lsn
returns-else-lsn c =
    let log : List SharedRecord = c.args.log.now in
    let n = c.args.lsn in
    let found = c.in_ok-packet.ensures.lookup in
    let point = IsPartitionPoint-from_clause (λ (p : SharedRecord). nat_lt (shared_redo p).lsn n) _ _ c.partition_point-place.ensures.partitioned (IsPartitionedBy-ltb (λ (p : SharedRecord). (shared_redo p).lsn) log n (lsn-rises log c.requires)) (λ a s q k. search rules) in
    sym (record-missing log c.partition_point-place.result n c.requires point (λ d within e. c.if-lsn.false (c.lsn.ensures ∙ ap (λ (p : SharedRecord). (shared_redo p).lsn) (found.3.1 d) ∙ e)))
