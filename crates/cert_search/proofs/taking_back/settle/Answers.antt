use Rattle.std.proofs.Common.{sym, subst}
use Rattle.cert_search.specs.Settled.{AreTied}
use Rattle.cert_search.specs.Dealing.{names_in}
use Rattle.cert_search.proofs.Returns.{all_tied, views_are, had_once, each_had}
use Rattle.cert_search.proofs.taking_back.settle.Goals as goal

pub gather-requires : goal.gather-requires
gather-requires c =
    subst (AreTied (names_in c.in_ok-owns.owns.items)) (sym c.in_ok-owns.ensures.1) (all_tied c.requires.0 c.args.hands.items c.requires.1 c.in_ok-owns.owns.items c.in_ok-owns.ensures.0)

pub returns-clause-once : goal.returns-clause-once
returns-clause-once c =
    had_once c.requires.0 c.args.hands.items c.requires.1
    (views_are c.args.hands.items c.in_ok-owns.owns.items c.gather.new.owns.items _ c.in_ok-owns.ensures c.gather.ensures c.learn_all.ensures)

pub returns-clause-each : goal.returns-clause-each
returns-clause-each c =
    each_had c.args.hands.items
    (views_are c.args.hands.items c.in_ok-owns.owns.items c.gather.new.owns.items _ c.in_ok-owns.ensures c.gather.ensures c.learn_all.ensures)
