use Rattle.std.proofs.Common.{subst, sym, OnSome}
use Rattle.json.specs.Token as token
use Rattle.plan.specs.Puts.{PutsToken}
use Rattle.plan.proofs.Putting.{token_put}
use Rattle.plan.proofs.puts.put_key.Goals as goal

pub returns : goal.returns
returns c = subst (λ o. OnSome o (PutsToken (token.key c.args.name.now) c.args.writer.now c.key.new.self)) (sym c.ok.ensures.value) (token_put c.key.result c.args.writer.now c.key.new.self (token.key c.args.name.now) c.key.ensures)
