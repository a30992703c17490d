use Rattle.std.proofs.Common.{subst, sym, decimal, arith, OnSome}
use Rattle.json.specs.Print.{IsNumber}
use Rattle.json.specs.Token as token
use Rattle.json.proofs.Printed.Decimals.{IsNumber-decimal}
use Rattle.refutation.specs.Common.{number_data}
use Rattle.plan.specs.Puts.{Puts}
use Rattle.plan.proofs.Putting.{value_put, number_put}
use Rattle.plan.proofs.puts.put_number.Goals as goal
use Rattle.std.proofs.lemmas.Grind.{common_steps}

pub number-requires : goal.number-requires
number-requires c = subst IsNumber (sym c.in-Some.ensures) (IsNumber-decimal c.args.number (omega arith))

pub returns-in-Some : goal.returns-in-Some
returns-in-Some c = grind (arith, common_steps, c.in-Some.ensures, c.number.ensures, c.ok.ensures.value, (decimal c.args.number), (number_put c.args.number c.args.writer.now c.number.new.self (omega arith)))

pub returns-in-None : goal.returns-in-None
returns-in-None c = subst (λ o. OnSome o (Puts (number_data c.args.number) c.args.writer.now c.u64.new.self)) (sym c.ok-in-None.ensures.value) (value_put c.u64.result c.args.writer.now c.u64.new.self (token.number (decimal c.args.number)) (number_data c.args.number) (number_put c.args.number c.args.writer.now c.u64.new.self (omega arith)) c.u64.ensures)
