use Rattle.std.proofs.Common.{Some, None, is_some, sym, ap, ◌∙◌}
use Rattle.serde_json.specs.Data.{item}
use Rattle.quorum_expr.proofs.Places.{next_here, next_stays}
use Rattle.quorum_expr.specs.Placed.{or_null, or_none}
use Rattle.quorum_expr.proofs.on_tape.TapeNodeNode.next.Goals as goal

pub invariant_of-rest : goal.invariant_of-rest
invariant_of-rest c = record { readable = next_stays c.args.rest.now.items c.next.new.self c.next.result c.args.rest.now.readable c.next.ensures.value c.next.ensures.stays }

pub invariant_of-result : goal.invariant_of-result
invariant_of-result c = let x = next_here c.args.rest.now.items c.next.new.self (Some c.in-Some.element) c.args.rest.now.readable c.in-Some.ensures.value in record { readable = ap is_some x.2 }

pub returns-in-Some : goal.returns-in-Some
returns-in-Some c =
    let x = next_here c.args.rest.now.items c.next.new.self (Some c.in-Some.element) c.args.rest.now.readable c.in-Some.ensures.value in
    x.4 ∙ (λ i. item (or_null (sym x.2 i)) (or_none (sym x.3 i)))

pub returns-in-None : goal.returns-in-None
returns-in-None c = next_here c.args.rest.now.items c.next.new.self None c.args.rest.now.readable c.in-None.ensures.value
