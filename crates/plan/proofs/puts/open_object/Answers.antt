use Rattle.std.proofs.Common.{subst, sym, OnSome}
use Rattle.json.specs.Token as token
use Rattle.plan.specs.Puts.{PutsToken}
use Rattle.plan.proofs.Putting.{token_put}
use Rattle.plan.proofs.puts.open_object.Goals as goal

pub returns : goal.returns
returns c = subst (λ o. OnSome o (PutsToken token.begin_object c.args.writer.now c.begin_object.new.self)) (sym c.ok.ensures.value) (token_put c.begin_object.result c.args.writer.now c.begin_object.new.self token.begin_object c.begin_object.ensures)
