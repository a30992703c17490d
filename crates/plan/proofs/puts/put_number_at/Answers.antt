use Rattle.plan.proofs.Putting.{then_put}
use Rattle.plan.proofs.puts.put_number_at.Goals as goal

pub returns : goal.returns
returns c = then_put c.put_number.result c.put_number.ensures (λ p. record { between = c.put_key.new.writer; key = c.in_ok-put_key.ensures; value = p })
