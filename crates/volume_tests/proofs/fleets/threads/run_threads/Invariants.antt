-- The fleet's site is what the arguments of the call are.
use Rattle.std.specs.Arc.{arc_value}
use Rattle.board.specs.Seats.{board_table}
use Rattle.plan.specs.Common.{checked_model}
use Rattle.journal.specs.Fronts.{book_of}
use Rattle.journal.specs.Tokens.{ids_of}
use Rattle.node_fleet.specs.Bases.{mail_in, passes_of}
use Rattle.volume_tests.proofs.fleets.threads.run_threads.Given as goal

abbrev pub ghosts-work_over-L-Ledger : goal.ghosts-work_over-L-Ledger
ghosts-work_over-L-Ledger g a = record { name = a.base.blank.name; parts = passes_of a.base }

abbrev pub ghosts-work_over-L-Site : goal.ghosts-work_over-L-Site
ghosts-work_over-L-Site g a = record { plan = checked_model (arc_value a.plan); cells = ids_of a.row.now; board = board_table a.base.board; history = book_of a.base.opened; slots = 1 }

abbrev pub ghosts-work_over-L-FleetSite : goal.ghosts-work_over-L-FleetSite
ghosts-work_over-L-FleetSite g a = record { mail = mail_in a.base }
