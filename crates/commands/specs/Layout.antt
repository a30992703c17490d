-- JSON with and without blanks.
use Rattle.std.specs.Prelude.{ℕ, List, [], ◌∷◌, Bool, false, ◌==◌, ◌||◌, if◌then◌else◌}
use Rattle.commands.specs.declared.layout.Place.{Place}
use Rattle.commands.specs.declared.layout.Place.TheVariants.{Outside, Inside, Escaped}

-- the place behind a byte: a quote begins and ends a text, and a backslash in one escapes the next byte
abbrev pub next_place : Place → ℕ → Place
next_place Outside b = if b == 34 then Inside else Outside
next_place Inside b = if b == 34 then Outside else (if b == 92 then Escaped else Inside)
next_place Escaped b = Inside

-- the place behind bytes
unfoldable pub place_after : Place → List ℕ → Place
place_after place [] = place
place_after place (b ∷ bs) = place_after (next_place place b) bs

-- the byte is a space or ends a line
abbrev pub is_blank : ℕ → Bool
is_blank b = (b == 32) || (b == 10)

-- the byte is a blank outside of texts
abbrev pub is_dropped : Place → ℕ → Bool
is_dropped Outside b = is_blank b
is_dropped Inside b = false
is_dropped Escaped b = false

-- bytes without the blanks outside of texts, from a place on
unfoldable pub squeezed_from : Place → List ℕ → List ℕ
squeezed_from place [] = []
squeezed_from place (b ∷ bs) =
    if is_dropped place b then squeezed_from (next_place place b) bs else b ∷ squeezed_from (next_place place b) bs

-- JSON without the blanks outside of texts
abbrev pub squeezed : List ℕ → List ℕ
squeezed = squeezed_from Outside
