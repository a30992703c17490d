use Rattle.std.proofs.Common.{ℕ, true, List, refl, ap, ◌∙◌}
use Rattle.volume_model.specs.Message as model
use Rattle.volume_model.specs.Common.{label_of, place_of, in_pieces, to_install, Contents}
use Rattle.lineage.specs.Lineage.{lineage_of}
use Rattle.writer_core.specs.Logs.{log_of_set}
use Rattle.writer_core.specs.Groups.{groups_in}
use Rattle.writer_core.proofs.Speaking.{messages-more}
use Rattle.recovery.proofs.messages.installs.Goals as goal

pub loop-group-preserved : goal.loop-group-preserved
loop-group-preserved c =
    let i = c.loop-group.group in
    let shown : ℕ → Contents = to_install (lineage_of c.args.found.now.lineage) (log_of_set c.args.found.now.log) in
    let said : ℕ → List model.Message = λ group. in_pieces (shown group) (model.Message.Install group (label_of c.args.volume (place_of (groups_in c.args.group_states.now)) group)) in
    messages-more c.loop-group.messages.items c.append.new.self.items c.in_ok-pieces.pieces.items i (λ group. true) said c.in_ok-append.ensures.items c.loop-group.invariant refl
    (c.in_ok-pieces.ensures
    ∙ ap (λ l. in_pieces (shown i) (model.Message.Install i l)) c.label-label.ensures)
