use Rattle.std.proofs.Common.{subst, sym, OnSome}
use Rattle.json.specs.Token as token
use Rattle.serde_json.specs.Data.{string}
use Rattle.plan.specs.Puts.{Puts}
use Rattle.plan.proofs.Putting.{value_put, string_put}
use Rattle.plan.proofs.puts.put_text.Goals as goal

pub returns : goal.returns
returns c = subst (λ o. OnSome o (Puts (string c.args.text.now) c.args.writer.now c.string.new.self)) (sym c.ok.ensures.value) (value_put c.string.result c.args.writer.now c.string.new.self (token.string c.args.text.now) (string c.args.text.now) (string_put c.args.text.now c.args.writer.now c.string.new.self) c.string.ensures)
