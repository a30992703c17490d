use Rattle.std.proofs.Common.{Err, arith, length, rules, subst, suc, sym, ◌+◌, ◌<◌, ◌≡◌}
use Rattle.drivers.specs.Script.{ReadsScript, kept_in}
use Rattle.drivers.specs.declared.reading.ScriptFault.{ScriptFault}
use Rattle.drivers.proofs.Lines.{is_some}
use Rattle.drivers.proofs.Scripts.{reads_all, reads_after_growth, reads_next, reads_over, reads_refused, starts_empty}
use Rattle.drivers.proofs.reading.read_script.Goals as goal

pub loop-rest-init : goal.loop-rest-init
loop-rest-init c =
    let steps = c.in_ok-with_capacity in
    let orders = c.in_ok-with_capacity-2 in
    let events = c.in_ok-events in
    starts_empty c.args.text.now (record { steps = steps.field-0; orders = orders.field-0 }) events.events.items steps.ensures.items orders.ensures.items events.ensures.items

pub returns-then-number-gt-SCRIPT_LINES : goal.returns-then-number-gt-SCRIPT_LINES
returns-then-number-gt-SCRIPT_LINES c =
    let rest = c.loop-rest.rest.now in
    let now = kept_in c.loop-rest.script c.loop-rest.events.items in
    let some : 0 < length rest = search rules in
    let numbered : c.len-number.result + 1 ≡ suc (length c.loop-rest.events.items) = omega arith in
    reads_after_growth c.args.text.now rest c.loop-rest.room (c.len-number.result + 1) now now c.loop-rest.invariant (is_some rest some) numbered (omega arith)

pub returns-in-Err : goal.returns-in-Err
returns-in-Err c =
    let now = kept_in c.loop-rest.script c.loop-rest.events.items in
    let new = kept_in c.add_first.new.script c.add_first.new.events.items in
    let numbered : c.len-number.result + 1 ≡ suc (length c.loop-rest.events.items) = omega arith in
    subst (λ (f : ScriptFault). ReadsScript c.args.text.now (Err f)) (sym c.stop_at.ensures)
    (reads_refused c.args.text.now c.loop-rest.rest.now c.loop-rest.room (c.len-number.result + 1) now new c.loop-rest.invariant c.in-Err.fault c.in-Err.ensures numbered)

pub returns-then-bytes-room : goal.returns-then-bytes-room
returns-then-bytes-room c =
    let now = kept_in c.loop-rest.script c.loop-rest.events.items in
    let new = kept_in c.add_first.new.script c.add_first.new.events.items in
    let numbered : c.len-number.result + 1 ≡ suc (length c.loop-rest.events.items) = omega arith in
    reads_over c.args.text.now c.loop-rest.rest.now c.loop-rest.room (c.len-number.result + 1) now new c.loop-rest.invariant c.in-Ok.after c.in-Ok.ensures numbered (omega arith)

pub loop-rest-preserved : goal.loop-rest-preserved
loop-rest-preserved c =
    let now = kept_in c.loop-rest.script c.loop-rest.events.items in
    let new = kept_in c.add_first.new.script c.add_first.new.events.items in
    reads_next c.args.text.now c.loop-rest.rest.now c.loop-rest.room (c.len-number.result + 1) now new c.loop-rest.invariant c.in-Ok.after c.in-Ok.ensures (omega arith) (omega arith)

pub returns : goal.returns
returns c = reads_all c.args.text.now c.loop-rest.rest.now c.loop-rest.room c.loop-rest.script c.loop-rest.events.items (search rules) c.loop-rest.invariant
