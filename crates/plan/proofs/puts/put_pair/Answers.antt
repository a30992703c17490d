use Rattle.std.proofs.Common.{[], ◌∷◌, subst}
use Rattle.refutation.specs.Common.{number_data}
use Rattle.plan.specs.Puts.{Puts}
use Rattle.plan.proofs.Putting.{then_put, listing, one_listed, listed}
use Rattle.plan.proofs.puts.put_pair.Goals as goal

pub returns : goal.returns
returns c =
    let a = number_data c.args.pair.0 in
    let b = number_data c.args.pair.1 in
    let first = subst (λ n. Puts (number_data n) c.open_array.new.writer c.put_number.new.writer) c.from.ensures c.in_ok-put_number.ensures in
    let second = subst (λ n. Puts (number_data n) c.put_number.new.writer c.put_number-2.new.writer) c.from-2.ensures c.in_ok-put_number-2.ensures in
    let none = listing c.args.writer.now c.open_array.new.writer c.in_ok-open_array.ensures in
    let one = one_listed [] a c.args.writer.now c.open_array.new.writer c.put_number.new.writer none first in
    let two = one_listed (a ∷ []) b c.args.writer.now c.put_number.new.writer c.put_number-2.new.writer one second in
    then_put c.close_array.result c.close_array.ensures (λ t. listed (a ∷ b ∷ []) c.args.writer.now c.put_number-2.new.writer c.close_array.new.writer two t)
