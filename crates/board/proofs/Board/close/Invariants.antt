use Rattle.std.proofs.Common.{◌≡◌, ◌+◌, ◌++◌, All, length, map, vec_len}
use Rattle.board.specs.Seats.{board_table, returned, steps_of, AreReturnedTo, IsSeatOf}
use Rattle.board.proofs.Board.close.Given as goal

abbrev pub invariant-loop-seat : goal.invariant-loop-seat
invariant-loop-seat l = record {
  of_board : AreReturnedTo (board_table l.self) l.returned;
  left : All (λ s. IsSeatOf l.self s) l.seats.items;
  all : map steps_of l.seats.items ++ returned l.returned ≡ map steps_of l.initial.seats.items ++ returned l.initial.returned;
  count : vec_len l.seats + length (returned l.returned) ≡ vec_len l.initial.seats + length (returned l.initial.returned);
}

abbrev pub decreases-loop-seat : goal.decreases-loop-seat
decreases-loop-seat l = vec_len l.seats
