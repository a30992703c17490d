use Rattle.std.proofs.Common.{◌≡◌, ◌<◌, length, take, false, sym, arith}
use Rattle.std.proofs.Math.ListN.{length-set}
use Rattle.quorum_expr.specs.Placed.{among}
use Rattle.quorum_expr.proofs.Keys.{counts_same, counts_more, counts_enough, counts_all}
use Rattle.quorum_expr.proofs.on_tape.distinct.Goals as goal
use Rattle.std.proofs.Common.{rules}

pub keys-preserved-then-not-is_among : goal.keys-preserved-then-not-is_among
keys-preserved-then-not-is_among c =
    let room : c.keys.count < length c.keys.seen = omega (arith, c.keys-test.true, c.keys.invariant.long) in
    let absent : among c.in-Some.key.now (take c.keys.count c.keys.seen) ≡ false = sym c.if-not-is_among.ensures in
    search (rules, c.in-Some.ensures.value, c.keys.invariant.counts, c.keys.invariant.long, counts_more, length-set)

pub keys-preserved : goal.keys-preserved
keys-preserved c = search (rules, c.if-not-is_among.ensures, c.in-Some.ensures.value, c.keys.invariant.counts, c.keys.invariant.long, counts_same)

pub returns-in-None : goal.returns-in-None
returns-in-None c = λ ms es h is. counts_all es c.keys.members c.next.new.self (take c.keys.count c.keys.seen) c.keys.count c.args.most c.keys-test.true c.in-None.ensures.value (c.keys.invariant.counts ms es h is)

pub returns : goal.returns
returns c = λ ms es h is. counts_enough es c.keys.members (take c.keys.count c.keys.seen) c.keys.count c.args.most c.keys-test.false c.keys.invariant.few (c.keys.invariant.counts ms es h is)
