use Rattle.std.proofs.Common.{subst, sym, OnSome}
use Rattle.json.specs.Token as token
use Rattle.plan.specs.Puts.{PutsToken}
use Rattle.plan.proofs.Putting.{token_put}
use Rattle.plan.proofs.puts.close_object.Goals as goal

pub returns : goal.returns
returns c = subst (λ o. OnSome o (PutsToken token.end_object c.args.writer.now c.end_object.new.self)) (sym c.ok.ensures.value) (token_put c.end_object.result c.args.writer.now c.end_object.new.self token.end_object c.end_object.ensures)
