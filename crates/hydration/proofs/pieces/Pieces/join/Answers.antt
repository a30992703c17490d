use Rattle.std.proofs.Common.{ap, ◌∙◌}
use Rattle.hydration.specs.Kept.{sets_kept}
use Rattle.hydration.proofs.Bringing.{joined-kept}
use Rattle.hydration.proofs.pieces.Pieces.join.Goals as goal

pub returns : goal.returns
returns c = joined-kept c.args.self.now.kept.items c.in_ok-parts.parts.items c.joined.result (c.in_ok-parts.ensures ∙ ap sets_kept c.deref.ensures.value) c.joined.ensures
