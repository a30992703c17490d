use Rattle.std.proofs.Common.{◌≡◌, ◌∙◌, ap, eqb, subst, sym, ℕ}
use Rattle.std.specs.List.{slice_split}
use Rattle.drivers.specs.Grammar.{name_in}
use Rattle.drivers.specs.Parts.{only_name, parts_left}
use Rattle.drivers.specs.Words.{sides_in, words_in}
use Rattle.drivers.proofs.LastWords.{only_is}
use Rattle.drivers.proofs.names.last_name.Goals as goal

pub returns : goal.returns
returns c =
    let words = parts_left c.args.words in
    let name = c.in-Some.name.now in
    let same : words_in name ≡ words = subst (λ (s : ℕ). slice_split (λ b. eqb b s) name ≡ words) c.requires c.in-Some.ensures in
    let turn : only_name c.args.earlier words ≡ name_in c.args.earlier (sides_in name) = ap (only_name c.args.earlier) (sym same) ∙ only_is c.args.earlier name in
    rw turn c.name_of.ensures
