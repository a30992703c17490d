use Rattle.std.proofs.Common.{ℕ, List, ap, ◌∙◌, is_ok}
use Rattle.recovery.proofs.Sought.{has, has-push, grows-kept}
use Rattle.recovery.proofs.grounded_lsns.GroundedLsns.push.Goals as goal

pub invariant_of-self : goal.invariant_of-self
invariant_of-self c = record { growing = grows-kept (is_ok c.push.result) c.args.self.now.numbers.items c.push.new.self.items c.args.number c.push.ensures.items c.args.self.now.growing c.requires }

pub returns : goal.returns
returns c n = ap (λ (ys : List ℕ). has ys n) c.in_ok-push.ensures.items ∙ has-push c.args.self.now.numbers.items c.args.number n
