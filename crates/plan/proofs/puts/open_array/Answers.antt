use Rattle.std.proofs.Common.{subst, sym, OnSome}
use Rattle.json.specs.Token as token
use Rattle.plan.specs.Puts.{PutsToken}
use Rattle.plan.proofs.Putting.{token_put}
use Rattle.plan.proofs.puts.open_array.Goals as goal

pub returns : goal.returns
returns c = subst (λ o. OnSome o (PutsToken token.begin_array c.args.writer.now c.begin_array.new.self)) (sym c.ok.ensures.value) (token_put c.begin_array.result c.args.writer.now c.begin_array.new.self token.begin_array c.begin_array.ensures)
