use Rattle.std.proofs.Common.{◌≡◌, ◌<◌, ◌≤◌, List, length, vec_len, sym, ap, ◌∙◌, arith, rules, subst}
use Rattle.volume_model.specs.Journal as model
use Rattle.volume_model.specs.Common.{world_at}
use Rattle.journal.specs.declared.entry.Entry.{Entry}
use Rattle.volume_model.proofs.Worlds.{take_rest}
use Rattle.journal.specs.Entries.{entries_of}
use Rattle.journal.specs.Tokens.{shown}
use Rattle.journal.proofs.Entered.{before_at, length-entries}
use Rattle.journal.proofs.Maps.{map-length}
use Rattle.journal.proofs.log.Log.maker.Goals as goal

pub behind-first-requires-clause-made : goal.behind-first-requires-clause-made
behind-first-requires-clause-made g c =
    let log = c.args.self.now in
    let es = shown log.entries.items in
    let kept : length log.firsts.items ≡ length es = ap length log.firsts_are ∙ map-length (λ (e : Entry). e.first) es in
    let end : c.len-end.result ≡ length es = c.len-end.ensures ∙ sym (let n : length log.firsts.items ≡ vec_len log.firsts = search rules in n) ∙ kept in
    let lt : c.args.near < length es = omega (arith, end, c.if-near-end.true) in
    let b = before_at g.L.Site.plan es log.firsts.items c.args.near c.index.result.now log.run log.firsts_are lt c.index.ensures in
    let whole = take_rest (entries_of es) c.len-end.result (omega (arith, end, length-entries es)) in
    let high = subst (λ (l : List model.Entry). c.args.number ≤ length (world_at g.L.Site.plan l).messages) (sym whole) (omega (arith, c.requires, log.messages_are)) in
    (omega (arith, b, c.if-index-number.true), high)
