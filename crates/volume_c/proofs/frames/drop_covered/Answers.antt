use Rattle.std.proofs.Common.{◌++◌, sym, ap, ◌∙◌}
use Rattle.wire.specs.Common.{listed, messages_of}
use Rattle.volume_c.specs.Joined.{joined}
use Rattle.volume_c.proofs.OwnTurns.{goes-covered, stays-apart}
use Rattle.volume_c.proofs.frames.drop_covered.Goals as goal

pub returns-then-not-covers-clause-waits : goal.returns-then-not-covers-clause-waits
returns-then-not-covers-clause-waits c =
    let answers = listed c.args.answers.now in
    ap (λ u. joined (messages_of u) (messages_of answers)) c.take_last-last.ensures.items
    ∙ stays-apart c.take_last-last.new.self.items c.take_last-last.result answers c.at.result.now c.at.ensures (sym c.covers.ensures ∙ c.if-not-covers.true)
    ∙ ap (λ u. messages_of u ++ messages_of answers) (sym c.push_reserved.ensures.items)

pub returns-else-not-covers-clause-waits : goal.returns-else-not-covers-clause-waits
returns-else-not-covers-clause-waits c =
    let answers = listed c.args.answers.now in
    ap (λ u. joined (messages_of u) (messages_of answers)) c.take_last-last.ensures.items
    ∙ goes-covered c.take_last-last.new.self.items c.take_last-last.result answers c.at.result.now c.at.ensures (sym c.covers.ensures ∙ c.if-not-covers.false)
