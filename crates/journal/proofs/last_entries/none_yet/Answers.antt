use Rattle.journal.proofs.last_entries.none_yet.Goals as goal

pub returns : goal.returns
returns c = c.in_ok-made.ensures.items_if_clones_equal (λ y e. e)
