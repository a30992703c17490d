-- How many messages a step of a client makes at most.
use Rattle.std.proofs.Common.{◌≡◌, ℕ, ◌+◌, ◌/◌, ◌≤◌, Option, Some, None, length, arith}
use Rattle.volume_model.specs.Common.{Plan, Message, taken, cut_client, log_reported, opened, take, Few, StepsAreFew}
use Rattle.volume_model.specs.Client.{Client}
use Rattle.std.proofs.lemmas.Grind.{common_steps}

-- a message that isn't there makes none
pub few-named : (plan : Plan) (most volume : ℕ) (now : Client) → ((m : Message) → Few most (taken plan volume now m)) → (found : Option Message) → Few most (take plan volume now found)
few-named plan most volume now few None = tt
few-named plan most volume now few (Some m) = few m

-- an opening makes none
pub few-opened : (plan : Plan) (now : Client) → Few 0 (opened plan now)
few-opened plan now = grind (arith, common_steps)

-- a client takes a message: so many groups, and so many records of the log that it found
pub few-taken : (plan : Plan) (volume : ℕ) (now : Client) (groups many : ℕ) → StepsAreFew → groups ≡ plan.groups → length now.found ≤ many → (m : Message) → Few (groups + many / 256) (taken plan volume now m)
few-taken plan volume now groups many law same within m = grind (arith, common_steps)

-- a client cuts: so many groups of its view, and so many records that are found at most
pub few-cut : (plan : Plan) (volume : ℕ) (now : Client) (groups many : ℕ) → StepsAreFew → length now.groups ≤ groups → length (log_reported now) ≤ many → Few (groups + many / 256) (cut_client plan volume now)
few-cut plan volume now groups many law same within = grind (arith, common_steps)
