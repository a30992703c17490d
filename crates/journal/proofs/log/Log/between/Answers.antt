use Rattle.std.proofs.Common.{◌≡◌, ◌<◌, length, vec_len, ◌∙◌, arith, rules}
use Rattle.journal.specs.Tokens.{shown}
use Rattle.journal.proofs.Entered.{before_at}
use Rattle.journal.proofs.Tokens.{length-shown}
use Rattle.journal.proofs.log.Log.between.Goals as goal

pub loop-low-preserved-then-index-number : goal.loop-low-preserved-then-index-number
loop-low-preserved-then-index-number g c =
    let log = c.args.self.now in
    let es = shown log.entries.items in
    let inv = c.loop-low.invariant in
    let k = c.probe-middle.result in
    let long : length es ≡ vec_len log.entries = length-shown log.entries.items ∙ search rules in
    let lt : k < length es = omega (arith, inv.within, long, c.probe-middle.ensures) in
    let b = before_at g.L.Site.plan es log.firsts.items k c.index.result.now log.run log.firsts_are lt c.index.ensures in
    record { within = (c.probe-middle.ensures.1, inv.within.1); back = omega (arith, inv.within, inv.back, c.min-step.ensures, c.loop-low-test.true); low = omega (arith, b, c.if-index-number.true); high = inv.high }

pub loop-low-preserved : goal.loop-low-preserved
loop-low-preserved g c =
    let log = c.args.self.now in
    let es = shown log.entries.items in
    let inv = c.loop-low.invariant in
    let k = c.probe-middle.result in
    let long : length es ≡ vec_len log.entries = length-shown log.entries.items ∙ search rules in
    let lt : k < length es = omega (arith, inv.within, long, c.probe-middle.ensures) in
    let b = before_at g.L.Site.plan es log.firsts.items k c.index.result.now log.run log.firsts_are lt c.index.ensures in
    record { within = (c.probe-middle.ensures.0, omega (arith, inv.within, c.probe-middle.ensures)); back = omega (arith, inv.within, inv.back, c.min-step.ensures, c.loop-low-test.true); low = inv.low; high = omega (arith, b, c.if-index-number.false) }
