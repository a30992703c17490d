use Rattle.std.proofs.Common.{nat_eq, subst}
use Rattle.writer_core.specs.Kept.{Tree, lsn_in, PutsIn}
use Rattle.writer_core.proofs.Trees.{puts-some}
use Rattle.writer_core.proofs.block_lsns.put_in.Goals as goal
use Rattle.std.proofs.lemmas.Grind.{common_steps}
use Rattle.std.proofs.Common.{arith}

pub returns-in-Some-clause-ok : goal.returns-in-Some-clause-ok
returns-in-Some-clause-ok c q b = grind (arith, common_steps, c.replace.ensures.after, puts-some, nat_eq)

pub returns-clause-ok : goal.returns-clause-ok
returns-clause-ok c =
    let group = c.args.place.1 in
    let block = c.args.place.0 in
    subst (λ (tree : Tree). PutsIn (lsn_in tree) group block c.args.lsn (lsn_in c.insert.new.self)) c.get_mut.follows.holds-at-none
    (puts-some c.get_mut.follows.lender-at-none group block c.args.lsn c.insert.new.self c.in_ok-insert.ensures.updates)
