-- The fleet's site is what the arguments of the call are.
use Rattle.std.specs.Arc.{arc_value}
use Rattle.board.specs.Seats.{board_table}
use Rattle.plan.specs.Common.{checked_model}
use Rattle.journal.specs.Fronts.{book_of}
use Rattle.journal.specs.Tokens.{ids_of}
use Rattle.node_fleet.specs.Bases.{mail_in, passes_of}
use Rattle.drivers.proofs.driving.drive.Given as goal

abbrev pub ghosts-drive_fleet-L-Ledger : goal.ghosts-drive_fleet-L-Ledger
ghosts-drive_fleet-L-Ledger g a = record { name = a.base.blank.name; parts = passes_of a.base }

abbrev pub ghosts-drive_fleet-L-Site : goal.ghosts-drive_fleet-L-Site
ghosts-drive_fleet-L-Site g a = record { plan = checked_model (arc_value a.plan.now); cells = ids_of a.row.now; board = board_table a.base.board; history = book_of a.base.opened; slots = 64 }

abbrev pub ghosts-drive_fleet-L-FleetSite : goal.ghosts-drive_fleet-L-FleetSite
ghosts-drive_fleet-L-FleetSite g a = record { mail = mail_in a.base }
