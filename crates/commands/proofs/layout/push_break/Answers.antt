use Rattle.std.proofs.Common.{refl, ◌∙◌}
use Rattle.commands.proofs.Layouts.{blank_more, still_outside}
use Rattle.commands.proofs.layout.push_break.Goals as goal

pub loop-init : goal.loop-init
loop-init c = rw c.in_ok-push.ensures.items (blank_more c.args.text.now.items 10 c.requires refl, still_outside c.args.text.now.items 10 c.requires refl)

pub loop-preserved : goal.loop-preserved
loop-preserved c =
    rw c.in_ok-push-2.ensures.items (blank_more c.loop.text.items 32 c.loop.invariant.1 refl ∙ c.loop.invariant.0, still_outside c.loop.text.items 32 c.loop.invariant.1 refl)
