use Rattle.std.proofs.Common.{◌≡◌, ◌++◌, map, length}
use Rattle.std.specs.Vec.Iter.{into_iter_items}
use Rattle.cert_search.specs.Hands.{hand_plain, hands_from}
use Rattle.cert_search.proofs.dealing.hands_of.Given as goal

abbrev pub invariant-loop-others : goal.invariant-loop-others
invariant-loop-others l = record {
  count : length (into_iter_items l.owners) ≡ length (into_iter_items l.others-iterator);
  hands : map hand_plain l.hands.items ++ hands_from (into_iter_items l.owners) (into_iter_items l.others-iterator) ≡ hands_from l.fn.table.owns.items l.fn.rows.items;
}
