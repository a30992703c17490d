use Rattle.std.proofs.Common.{◌∙◌, ◌+◌, ap, sym, eqb, length}
use Rattle.std.proofs.lemmas.List.Splits.{length-slice_split}
use Rattle.drivers.specs.Parts.{left_of}
use Rattle.drivers.proofs.parts.Parts.len.Goals as goal

pub returns-in-Some : goal.returns-in-Some
returns-in-Some c =
    ap (λ n. n + 1) c.count_of.ensures.counted
    ∙ (sym (length-slice_split (λ b. eqb b c.args.self.now.separator) c.in-Some.text.now) ∙ ap (λ left. length (left_of c.args.self.now.separator left)) (sym c.in-Some.is))
