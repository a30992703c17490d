use Rattle.std.proofs.Common.{◌≡◌, ◌<◌, length, vec_len, arith, rules}
use Rattle.journal.proofs.Tokens.{shown_at}
use Rattle.journal.proofs.log.Log.entry.Goals as goal

pub returns : goal.returns
returns g c =
    let log = c.args.self.now in
    let ts = log.entries.items in
    let long : vec_len log.entries ≡ length ts = search rules in
    let lt : c.args.cell < length ts = omega (arith, c.requires, long) in
    shown_at ts c.args.cell c.index.result.now lt c.index.ensures
