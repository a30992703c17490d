-- The actors of the model for a program's actors.
use Rattle.volume_model.specs.Common.{Actor}
use Rattle.journal.specs.declared.actor_name.ActorName.{ActorName}
use Rattle.journal.specs.declared.actor_name.ActorName.TheVariants as actors

-- the actor of the model for an actor's name
abbrev pub seen_who : ActorName → Actor
seen_who actors.TheAuthority = Actor.TheAuthority
seen_who (actors.Client volume) = Actor.Client volume
seen_who (actors.Node group member) = Actor.Node group member
