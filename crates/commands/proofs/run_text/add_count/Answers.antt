use Rattle.std.proofs.Common.{◌≡◌, ◌∙◌, ap, codes, decimal, if◌then◌else◌, List, OnOk, Result, Ok, Err, refl, string_bytes, ◌++◌, ℕ}
use Rattle.std.specs.Fmt.{digits}
use Rattle.std.specs.Result.{is_ok}
use Rattle.commands.proofs.run_text.add_count.Goals as goal

-- bytes were added that are other ones too
added : {E : Type 0} (r : Result (Unit {0}) E) (old new bytes other : List ℕ) → bytes ≡ other → new ≡ (if is_ok r then old ++ bytes else old) → OnOk r (new ≡ old ++ other)
added (Ok u) old new bytes other same e = e ∙ ap (λ b. old ++ b) same
added (Err e) old new bytes other same is = tt

none_made : codes " ok 0\n" ≡ codes " ok " ++ decimal 0 ++ codes "\n"
unfolding digits
none_made = refl

one_made : codes " ok 1\n" ≡ codes " ok " ++ decimal 1 ++ codes "\n"
unfolding digits
one_made = refl

pub returns-in-0 : goal.returns-in-0
returns-in-0 c =
    rw c.in-0.is (added c.push_str.result (string_bytes c.args.text.now) (string_bytes c.push_str.new.self) (codes " ok 0\n") (codes " ok " ++ decimal 0 ++ codes "\n") none_made c.push_str.ensures.bytes)

pub returns-in-1 : goal.returns-in-1
returns-in-1 c =
    rw c.in-1.is (added c.push_str-in-1.result (string_bytes c.args.text.now) (string_bytes c.push_str-in-1.new.self) (codes " ok 1\n") (codes " ok " ++ decimal 1 ++ codes "\n") one_made c.push_str-in-1.ensures.bytes)
