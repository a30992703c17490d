use Rattle.std.proofs.Common.{refl, sym, subst, codes}
use Rattle.serde_json.specs.Data.{no_members}
use Rattle.refutation.specs.Common.{number_data}
use Rattle.plan.specs.Puts.{PutsMember}
use Rattle.plan.specs.PutPlans.{PutsBorn}
use Rattle.plan.proofs.Putting.{then_put, one_more}
use Rattle.plan.proofs.written.put_born.Goals as goal

pub returns-in-Growing : goal.returns-in-Growing
returns-in-Growing c =
    then_put c.put_number_at.result c.put_number_at.ensures
    (λ p. subst (λ f. PutsBorn f c.args.born c.args.writer.now c.put_number_at.new.writer) (sym c.in-Growing.is)
    (λ start o. one_more no_members (codes "born") (number_data c.args.born) start c.args.writer.now c.put_number_at.new.writer refl o (subst (λ n. PutsMember (codes "born") (number_data n) c.args.writer.now c.put_number_at.new.writer) c.from.ensures p)))
