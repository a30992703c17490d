use Rattle.std.proofs.Common.{◌≡◌, ◌+◌, ◌<◌, length, vec_len, ◌∙◌, arith, rules}
use Rattle.journal.specs.Tokens.{shown}
use Rattle.journal.proofs.Entered.{before_at}
use Rattle.journal.proofs.Tokens.{length-shown}
use Rattle.journal.proofs.log.Log.behind.Goals as goal

pub returns-then-index-number-clause-made : goal.returns-then-index-number-clause-made
returns-then-index-number-clause-made g c =
    let log = c.args.self.now in
    let es = shown log.entries.items in
    let long : length es ≡ vec_len log.entries = length-shown log.entries.items ∙ search rules in
    let lt : c.args.near + 1 < length es = omega (arith, c.requires.within, long, c.if-next-end.false) in
    let b = before_at g.L.Site.plan es log.firsts.items (c.args.near + 1) c.index.result.now log.run log.firsts_are lt c.index.ensures in
    (omega (arith, b, c.if-index-number.true), c.requires.made.1)

pub returns-clause-made : goal.returns-clause-made
returns-clause-made g c =
    let log = c.args.self.now in
    let es = shown log.entries.items in
    let long : length es ≡ vec_len log.entries = length-shown log.entries.items ∙ search rules in
    let lt : c.args.near + 1 < length es = omega (arith, c.requires.within, long, c.if-next-end.false) in
    let b = before_at g.L.Site.plan es log.firsts.items (c.args.near + 1) c.index.result.now log.run log.firsts_are lt c.index.ensures in
    (c.requires.made.0, omega (arith, b, c.if-index-number.false))
