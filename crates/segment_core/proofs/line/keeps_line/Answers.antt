use Rattle.std.proofs.Common.{◌≤◌, ℕ, List, subst, arith, leb-true}
use Rattle.volume_model.specs.Common.{Redo}
use Rattle.redo_record.specs.Common.{records_of, runs_of, index_of, shared_redo}
use Rattle.segment_core.specs.Chains as chains
use Rattle.segment_core.specs.Chains.{IsFoundAt}
use Rattle.segment_core.proofs.Lines.{line-kept, line-kept_last}
use Rattle.segment_core.proofs.line.keeps_line.Goals as goal

pub returns-in-Some : goal.returns-in-Some
returns-in-Some c kept line =
    let records : List Redo = records_of c.args.set.now in
    let i : ℕ = index_of (runs_of c.args.set.now) c.args.place in
    let r : Redo = shared_redo c.args.packet.now in
    let s : Redo = shared_redo c.in-Some.next.now in
    let low : chains.lsn_before 0 records i ≤ r.prev_group = omega (arith, c.lsn_before.ensures, c.prev_group.ensures) in
    let high : c.lsn.result ≤ c.prev_group-in-Some.result = leb-true c.lsn.result c.prev_group-in-Some.result kept in
    line-kept records i r c.requires.stands.stands.joins low line s (subst (IsFoundAt c.args.set.now c.args.place) c.in-Some.is c.requires.found) (omega (arith, c.lsn.ensures, c.prev_group-in-Some.ensures))

pub returns-in-None : goal.returns-in-None
returns-in-None c kept line =
    let records : List Redo = records_of c.args.set.now in
    let i : ℕ = index_of (runs_of c.args.set.now) c.args.place in
    let r : Redo = shared_redo c.args.packet.now in
    let low : chains.lsn_before 0 records i ≤ r.prev_group = omega (arith, c.lsn_before.ensures, c.prev_group.ensures) in
    line-kept_last records i r c.requires.stands.stands.joins low line (subst (IsFoundAt c.args.set.now c.args.place) c.in-None.is c.requires.found)
