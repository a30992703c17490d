use Rattle.std.proofs.Common.{◌≡◌, ◌-◌, ◌≤◌, ◌++◌, ℕ, List, length, length-append, map, ap, sym, subst, arith}
use Rattle.std.proofs.lemmas.List.{append-nil, drop_all, drop-append-le, length-map, map-append}
use Rattle.volume_model.specs.Common.{Redo}
use Rattle.redo_record.specs.declared.shared_record.SharedRecord.{SharedRecord}
use Rattle.redo_record.specs.Common.{packets_of, records_of, shared_redo}
use Rattle.writer_core.specs.Ending.{EndsWith}
use Rattle.writer_core.specs.Log.{packets_in}
use Rattle.writer_core.proofs.Ending.{ends-in-run, ends-before}
use Rattle.writer_core.proofs.Joined.{shown-set}
use Rattle.writer_core.proofs.log.Log.before.Goals as goal
use Rattle.std.proofs.lemmas.Grind.{common_steps}

pub run_before-requires : goal.run_before-requires
run_before-requires c = grind (arith, common_steps, c.if-place-self.false, c.runs.ensures, shown-set, length-map)

pub returns-then-place-self-clause-before : goal.returns-then-place-self-clause-before
returns-then-place-self-clause-before c =
    let log = c.args.self.now in
    let place : ℕ = c.args.place in
    let found : List SharedRecord = packets_of log.found in
    let issued : List SharedRecord = log.issued.items in
    let read : List SharedRecord = c.deref.result.now in
    let long : length (map shared_redo found) ≡ length found = length-map found shared_redo in
    let within : place - log.begun ≤ length read = omega (arith, c.requires.within, length-append found issued, log.counted, ap length c.deref.ensures.value) in
    grind (arith, common_steps, c.deref.ensures.value, ends-in-run, map-append, drop-append-le, drop_all, append-nil, (map-append shared_redo found issued), (drop-append-le (length found) (map shared_redo found) (map shared_redo issued) (omega arith)), (drop_all (length found) (map shared_redo found) (omega arith)), (append-nil (map shared_redo read)))

pub returns-else-place-self-clause-before : goal.returns-else-place-self-clause-before
returns-else-place-self-clause-before c =
    let log = c.args.self.now in
    let place : ℕ = c.args.place in
    let issued : List Redo = map shared_redo log.issued.items in
    let packets : List SharedRecord = c.run_before.result.now in
    let whole : map shared_redo (packets_in log) ≡ records_of log.found ++ issued = grind (arith, common_steps, map-append, shown-set) in
    let within : place ≤ length (records_of log.found) = omega (arith, c.if-place-self.false, log.counted, ap length (shown-set log.found), length-map (packets_of log.found) shared_redo) in
    subst (EndsWith packets place) (sym whole) (ends-before packets place (records_of log.found) issued within (subst (EndsWith packets place) c.runs.ensures c.run_before.ensures.before))
