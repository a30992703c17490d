use Rattle.std.proofs.Common.{◌<◌, length, refl, arith}
use Rattle.cert_search.proofs.Rows.{within}
use Rattle.cert_search.proofs.Tables.{marked_before, marked_after}
use Rattle.cert_search.proofs.table.close_all.Goals as goal

pub loop-which-init : goal.loop-which-init
loop-which-init c = record { count = refl; before = λ d old new lt e f. absurd (omega arith); after = λ d le. refl }

pub loop-which-preserved : goal.loop-which-preserved
loop-which-preserved c =
    let inv = c.loop-which.invariant in
    let which = c.loop-which.which in
    let olds = c.args.owns.now.items in
    let owns = c.loop-which.owns.items in
    let lt : which < length owns = omega (arith, inv.count) in
    record {
      count = inv.count;
      before = marked_before c.args.workers which olds owns c.index_mut-own.result.now c.close_for.new.own lt c.index_mut-own.ensures.value c.in_ok-close_for.ensures inv.before inv.after;
      after = marked_after c.args.workers which olds owns c.index_mut-own.result.now c.close_for.new.own lt c.index_mut-own.ensures.value c.in_ok-close_for.ensures inv.after;
    }

pub returns : goal.returns
returns c =
    let inv = c.loop-which.invariant in
    record { as_many = omega (arith, inv.count); each = λ d old new e f. inv.before d old new (omega (arith, within c.args.owns.now.items d old e, inv.count)) e f }
