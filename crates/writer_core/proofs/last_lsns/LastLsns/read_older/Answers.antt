use Rattle.std.proofs.Common.{◌≡◌, ℕ, ◌+◌, ◌-◌, ◌∷◌, List, length, map, take, arith}
use Rattle.std.proofs.lemmas.List.{take_all, take_more}
use Rattle.volume_model.specs.Common.{added, Redo}
use Rattle.redo_record.specs.Common.{redo_of, shared_redo}
use Rattle.redo_record.specs.declared.shared_record.SharedRecord.{SharedRecord}
use Rattle.writer_core.specs.LastLsns.{AreLasts}
use Rattle.writer_core.specs.Log.{packets_in}
use Rattle.writer_core.specs.Logs.{log_of}
use Rattle.writer_core.proofs.Ending.{log-ends}
use Rattle.writer_core.proofs.Logs.{added_from}
use Rattle.writer_core.proofs.last_lsns.LastLsns.read_older.Goals as goal
use Rattle.std.proofs.lemmas.Grind.{common_steps}

pub loop-left-init : goal.loop-left-init
loop-left-init c =
    let log : List SharedRecord = packets_in c.args.log.now in
    let packets : List SharedRecord = c.before-packets.result.now in
    let unread : ℕ = c.args.self.now.unread in
    let older : List Redo = log_of (take (unread - length packets) log) in
    let lasts : AreLasts c.args.self.now (log_of log) (added (map shared_redo (take (length packets) packets)) older) = grind (arith, common_steps, c.before-packets.ensures.before, c.requires.lasts.lasts, log-ends, take_all) in
    grind (arith, common_steps)

pub loop-left-preserved : goal.loop-left-preserved
loop-left-preserved c =
    let log : List SharedRecord = packets_in c.args.log.now in
    let packets : List SharedRecord = c.before-packets.result.now in
    let left : ℕ = c.loop-left.left - 1 in
    let same : c.read.new.self.unread ≡ c.loop-left.self.unread = c.in_ok-read.ensures.unread in
    let older : List Redo = log_of (take c.loop-left.self.unread log) in
    let one : c.loop-left.left ≡ left + 1 = omega (arith, c.loop-left-test.true) in
    let next : added (map shared_redo (take c.loop-left.left packets)) older ≡ redo_of c.«record».result.now ∷ added (map shared_redo (take left packets)) older = grind (arith, common_steps, c.index-packets-left.is, c.«record».ensures, take_more, added_from) in
    grind (arith, common_steps)
