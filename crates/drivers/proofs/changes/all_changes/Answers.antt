use Rattle.std.proofs.Common.{◌≡◌, ◌∙◌, ap, eqb, subst, sym, ℕ, Some}
use Rattle.std.specs.List.{slice_split}
use Rattle.writer_core.specs.Changes.{changes_of}
use Rattle.drivers.specs.Grammar.{changes_in}
use Rattle.drivers.specs.Parts.{parts_left}
use Rattle.drivers.specs.Words.{words_in}
use Rattle.drivers.proofs.changes.all_changes.Goals as goal

pub returns-in-Some-2 : goal.returns-in-Some-2
returns-in-Some-2 c =
    let words = subst (λ (s : ℕ). slice_split (λ b. eqb b s) c.in-Some.text.now ≡ parts_left c.args.words) c.requires c.in-Some.ensures in
    let found : changes_in (words_in c.in-Some.text.now) ≡ Some (changes_of c.in-Some-2.changes.items) = rw c.in-Some-2.is at c.in_ok-changes.ensures in
    ap changes_in (sym words) ∙ found
