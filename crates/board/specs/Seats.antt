-- Views of a board and its seats for contracts.
use Rattle.std.specs.Prelude.{◌≡◌, ℕ, List, []}
use Rattle.atomic_table.specs.Seated.{TableId}
use Rattle.board.specs.declared.BoardStep.{BoardStep}
use Rattle.board.specs.declared.BoardSeat.{BoardSeat}
use Rattle.board.specs.declared.Board.{Board}
use Rattle.board.specs.declared.ReturnedSeats.{ReturnedSeats}
use Rattle.board.specs.Shares.{first_of}

-- the table that holds the board's number
abbrev pub board_table : Board → TableId
board_table board = board.table.shared.table_id

-- the number of seats of the board
abbrev pub seats_of : Board → ℕ
seats_of board = board.table.shared.key

-- the table of a seat
abbrev pub seat_table : BoardSeat → TableId
seat_table seat = seat.seat.table_id

-- the seat belongs to the board of this table
abbrev pub IsSeatIn : TableId → BoardSeat → Type 0
IsSeatIn table seat = (seat_table seat ≡ table) × (seat.seat.me.1 ≡ [])

-- the seat belongs to this board
abbrev pub IsSeatOf : Board → BoardSeat → Type 0
IsSeatOf board seat = IsSeatIn (board_table board) seat

-- the steps of a seat, oldest first
abbrev pub steps_of : BoardSeat → List BoardStep
steps_of seat = first_of seat.seat.me.0.1

-- the seats were returned to the board of this table
abbrev pub AreReturnedTo : TableId → ReturnedSeats → Type 0
AreReturnedTo table seats = (seats.all.table_id ≡ table) × (seats.all.me.1 ≡ [])

-- the steps of each returned seat, the last one first
abbrev pub returned : ReturnedSeats → List (List BoardStep)
returned seats = seats.all.me.0.1
