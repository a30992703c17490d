-- The authority's actor as seen by contracts.
use Rattle.std.specs.declared.sync.ledger.Ledger.{Ghosts as LedgerGhosts}
use Rattle.volume_model.specs.Common.{Authority}
use Rattle.epochs.specs.Authority.{authority_of}
use Rattle.journal.specs.declared.row.Site.{Ghosts as SiteGhosts}
use Rattle.node_fleet.specs.declared.authority.AuthorityActor.{AuthorityActor}

-- the authority of the model for the actor
abbrev pub actor_authority : {X : Type 0} {s : SiteGhosts X} {l : LedgerGhosts X} → AuthorityActor X s l → Authority
actor_authority actor = authority_of actor.authority
