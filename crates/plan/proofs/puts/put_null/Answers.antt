use Rattle.std.proofs.Common.{subst, sym, OnSome}
use Rattle.json.specs.Token as token
use Rattle.serde_json.specs.Data.{null}
use Rattle.plan.specs.Puts.{Puts}
use Rattle.plan.proofs.Putting.{value_put, null_put}
use Rattle.plan.proofs.puts.put_null.Goals as goal

pub returns : goal.returns
returns c = subst (λ o. OnSome o (Puts null c.args.writer.now c.null.new.self)) (sym c.ok.ensures.value) (value_put c.null.result c.args.writer.now c.null.new.self token.null null (null_put c.args.writer.now c.null.new.self) c.null.ensures)
