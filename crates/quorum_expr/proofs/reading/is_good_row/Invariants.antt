use Rattle.std.proofs.Common.{◌≡◌, ◌+◌, ◌-◌, ◌*◌, ◌≤◌}
use Rattle.volume_model.specs.Common.{total_weight}
use Rattle.quorum_expr.specs.Valid.{each_fits}
use Rattle.quorum_expr.specs.Reading.{weighing, unread}
use Rattle.quorum_expr.specs.Forms.{weights_data}
use Rattle.quorum_expr.proofs.reading.is_good_row.Given as goal

-- the weights so far are good ones, and what they add up to
abbrev pub invariant-loop-number : goal.invariant-loop-number
invariant-loop-number l =
    let ws = weights_data l.weights in
    record {
      fits : each_fits (weighing ws l.number (unread (l.count - l.number))) ≡ each_fits (weighing ws 0 (unread l.count));
      total : l.all + total_weight (weighing ws l.number (unread (l.count - l.number))) ≡ total_weight (weighing ws 0 (unread l.count));
      low : l.all ≤ 255 * l.number;
    }
