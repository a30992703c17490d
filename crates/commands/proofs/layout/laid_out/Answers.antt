use Rattle.std.proofs.Common.{◌∙◌, sym}
use Rattle.commands.proofs.Layouts.{alike_none, alike_other, alike_step}
use Rattle.commands.proofs.layout.laid_out.Goals as goal
use Rattle.commands.proofs.layout.laid_out.Goals.{in-Outside+then-ends_line+in_ok-push_break, in-Outside+else-ends_line, in_default}

pub loop-i-init : goal.loop-i-init
loop-i-init c = rw c.new-text.ensures.items alike_none

pub loop-i-preserved : goal.loop-i-preserved
loop-i-preserved c =
    let more = alike_step c.loop-i.text.items c.push.new.self.items c.args.line.now c.loop-i.place c.next_place-place.result c.loop-i.i c.in_ok-push.ensures.items c.next_place-place.ensures c.loop-i-test.true c.loop-i.invariant in
    elim c.match-place.branch [
      | in-Outside+then-ends_line+in_ok-push_break w ↦ rw w.text-is (alike_other c.push.new.self.items w.push_break.new.text.items _ c.next_place-place.result w.in_ok-push_break.ensures.same (w.in_ok-push_break.ensures.outside ∙ sym w.in-Outside.is) more)
      | in-Outside+else-ends_line w ↦ rw w.text-is more
      | in_default w ↦ rw w.text-is more
    ]

pub push_break-requires : goal.push_break-requires
push_break-requires c =
    let more = alike_step c.loop-i.text.items c.push.new.self.items c.args.line.now c.loop-i.place c.next_place-place.result c.loop-i.i c.in_ok-push.ensures.items c.next_place-place.ensures c.loop-i-test.true c.loop-i.invariant in
    more.left ∙ c.in-Outside.is
