use Rattle.journal.proofs.history.Opened.add.Given as goal

abbrev pub ghosts-extend : goal.ghosts-extend
ghosts-extend a = record { entry = a.entry.now }
