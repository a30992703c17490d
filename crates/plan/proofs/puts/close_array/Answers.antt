use Rattle.std.proofs.Common.{subst, sym, OnSome}
use Rattle.json.specs.Token as token
use Rattle.plan.specs.Puts.{PutsToken}
use Rattle.plan.proofs.Putting.{token_put}
use Rattle.plan.proofs.puts.close_array.Goals as goal

pub returns : goal.returns
returns c = subst (λ o. OnSome o (PutsToken token.end_array c.args.writer.now c.end_array.new.self)) (sym c.ok.ensures.value) (token_put c.end_array.result c.args.writer.now c.end_array.new.self token.end_array c.end_array.ensures)
