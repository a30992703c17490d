use Rattle.world.proofs.Runs.{lasting, finds_lasting}
use Rattle.world.proofs.running.promised.Goals as goal
use Rattle.std.proofs.Common.{rules}

pub returns : goal.returns
returns c events = search (rules, c.certified.ensures, c.volume_keeps_commits.ensures, c.pages_are_true.ensures, c.acknowledgements_last.ensures, c.finds_last.ensures, c.one_lineage_an_epoch.ensures, c.opens_at_its_cut.ensures, c.runs_are_orderly.ensures, c.volumes_go_on.ensures.goes_on, lasting, finds_lasting)
