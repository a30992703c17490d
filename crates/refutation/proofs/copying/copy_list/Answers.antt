use Rattle.std.proofs.Common.{◌++◌, ap, sym, ◌∙◌, Ok}
use Rattle.refutation.proofs.copying.copy_list.Goals as goal

pub returns : goal.returns
returns g c = ap Ok (sym (c.in_ok-extend_from_slice.ensures.items ∙ ap (λ xs. xs ++ c.args.numbers.now) c.new-copy.ensures.items))
