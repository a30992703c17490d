use Rattle.volume_model.specs.Common.{Plan, KeepsClaim}
use Rattle.plan.specs.Common.{checked_model}
use Rattle.plan.proofs.WriteSets.{sat_all}
use Rattle.world.proofs.progress.volumes_go_on.Goals as goal

pub returns-clause-goes_on : goal.returns-clause-goes_on
returns-clause-goes_on c = c.readable_volumes_commit.ensures (checked_model c.args.plan.now) c.keeps_claims.ensures.claims c.keeps_claims.ensures.write_sets

pub returns-clause-can_be_read : goal.returns-clause-can_be_read
returns-clause-can_be_read c group events there waited =
    let plan : Plan = checked_model c.args.plan.now in
    let claim : KeepsClaim (plan.configuration group 0) = c.keeps_claims.ensures.claims.quorums group 0 there (c.keeps_claims.ensures.claims.root_there group there) in
    c.waiting_keeps_readers.ensures plan group events (sat_all (plan.configuration group 0).read _ claim.read_counts claim.read_own) waited
