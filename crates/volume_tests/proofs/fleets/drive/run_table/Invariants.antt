-- The fleet's site is what the arguments of the call are.
use Rattle.std.specs.Arc.{arc_value}
use Rattle.board.specs.Seats.{board_table}
use Rattle.plan.specs.Common.{checked_model}
use Rattle.journal.specs.Fronts.{book_of}
use Rattle.journal.specs.Tokens.{ids_of}
use Rattle.node_fleet.specs.Bases.{mail_in, passes_of}
use Rattle.volume_tests.proofs.fleets.drive.run_table.Given as goal

abbrev pub ghosts-drive-L-Ledger : goal.ghosts-drive-L-Ledger
ghosts-drive-L-Ledger g a = record { name = a.base.blank.name; parts = passes_of a.base }

abbrev pub ghosts-drive-L-Site : goal.ghosts-drive-L-Site
ghosts-drive-L-Site g a = record { plan = checked_model (arc_value a.plan); cells = ids_of a.row.now; board = board_table a.base.board; history = book_of a.base.opened; slots = a.slots }

abbrev pub ghosts-drive-L-FleetSite : goal.ghosts-drive-L-FleetSite
ghosts-drive-L-FleetSite g a = record { mail = mail_in a.base }
