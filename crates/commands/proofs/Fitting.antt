-- What is kept of what was found, where a plan's line would be too long.
use Rattle.std.proofs.Common.{◌≡◌, ◌∙◌, sym, subst, inr, ℕ, ◌-◌, ◌<◌, List, Option, None, Result, Ok, Err, IfOk, length, map, replicate}
use Rattle.std.proofs.lemmas.List.{length-map}
use Rattle.std.specs.declared.alloc.Global.{Global}
use Rattle.refutation.specs.declared.certificate.Certificate.{Certificate}
use Rattle.cert_search.specs.Answers.{rule_in}
use Rattle.cert_search.specs.Kept.{AreKept}
use Rattle.commands.specs.Searched.{AreFitted, IsLineWith, IsRoom}
use Rattle.commands.proofs.Searching.{none_ruled}

-- what is so is so of any answer
pub of_any : {X E P : Type 0} (r : Result X E) → P → IfOk r (λ _. P)
of_any (Ok x) p = p
of_any (Err e) p = tt

-- a line, by another name for its certificates
line_of : (text line : List ℕ) (lent olds : List (Option (Certificate Global))) → lent ≡ olds → IsLineWith text (map rule_in lent) line → IsLineWith text (map rule_in olds) line
line_of text line lent olds same of = subst (λ (cs : List (Option (Certificate Global))). IsLineWith text (map rule_in cs) line) same of

-- the room beside a line without certificates
pub room_is : (text line : List ℕ) (places room : ℕ) (empty : List (Option (Certificate Global))) → empty ≡ replicate places None → IsLineWith text (map rule_in empty) line → room ≡ 16777216 - length line → IsRoom text places room
room_is text line places room empty are of is =
    (line, subst (λ rules. IsLineWith text rules line) (none_ruled places) (line_of text line empty (replicate places None) are of), is)

-- the shortest of what was found, where all of it doesn't fit
pub fits_in_part : (text line : List ℕ) (places room : ℕ) (lent olds news : List (Option (Certificate Global))) → lent ≡ olds → IsLineWith text (map rule_in lent) line → 16777216 < length line → places ≡ length olds → IsRoom text places room
    → AreKept room (map rule_in olds) (map rule_in news) → AreFitted text (map rule_in olds) (map rule_in news)
fits_in_part text line places room lent olds news same of long count beside shortest =
    inr (line, room, line_of text line lent olds same of, long, subst (λ n. IsRoom text n room) (count ∙ sym (length-map olds rule_in)) beside, shortest)
