-- The meaning of some lines.
use Rattle.std.specs.Prelude.{◌≡◌, [], ◌∷◌, ℕ, Some, None, codes}
use Rattle.volume_model.specs.Common.{Change, Event}
use Rattle.drivers.specs.Grammar.{action_of}
use Rattle.drivers.specs.Grammar.LineAction.{Nothing, Pauses, Makes, Delivers, Takes}

-- a change of block 0 of group 0: one byte at an offset
abbrev pub byte_at : ℕ → ℕ → Change
byte_at offset byte = record { group = 0; block = 0; offset = offset; bytes = byte ∷ [] }

-- A script that issues three records, delivers the second to a segment, waits, and restarts the segment; lines with the
-- other events; and lines that aren't in the grammar.
pub record SayTheirLines : Type 0 where
  pub issues : action_of 0 (codes "issue 1 0:0:0:61 0:0:1:62 0:0:2:63")
      ≡ Some (Makes (Event.Issue 1 (byte_at 0 97 ∷ byte_at 1 98 ∷ byte_at 2 99 ∷ [])))
  pub delivers : action_of 1 (codes "deliver 0 3 1.2") ≡ Some (Delivers 0 3 1 2)
  pub waits : action_of 2 (codes "wait") ≡ Some Pauses
  pub restarts : action_of 3 (codes "restart 0 3") ≡ Some (Makes (Event.Restart 0 3))
  pub assigns : action_of 3 (codes "assign") ≡ Some (Makes Event.Assign)
  pub advances : action_of 3 (codes "advance 0 1") ≡ Some (Makes (Event.Advance 0 1))
  pub refreshes : action_of 3 (codes "refresh 2") ≡ Some (Makes (Event.Refresh 2))
  pub grows : action_of 3 (codes "grow") ≡ Some (Makes Event.Grow)
  pub takes : action_of 3 (codes "take 2 1.3") ≡ Some (Takes 2 1 3)
  pub cuts : action_of 3 (codes "cut 2") ≡ Some (Makes (Event.Cut 2))
  pub opens : action_of 3 (codes "open 2") ≡ Some (Makes (Event.Open 2))
  pub resends : action_of 3 (codes "resend 2 14") ≡ Some (Makes (Event.Resend 2 14))
  pub reads : action_of 3 (codes "read 1 0 7") ≡ Some (Makes (Event.Read 1 0 7))
  pub hydrates : action_of 3 (codes "hydrate 0 6") ≡ Some (Makes (Event.Hydrate 0 6))
  pub offers : action_of 3 (codes "offer 0 3 1") ≡ Some (Makes (Event.Offer 0 3 1))
  pub comments : action_of 4 (codes "# wait") ≡ Some Nothing
  pub empty : action_of 5 [] ≡ Some Nothing
  pub two_spaces : action_of 6 (codes "restart 0  3") ≡ None
  pub leading_zero : action_of 6 (codes "restart 0 03") ≡ None
  pub later_line : action_of 6 (codes "deliver 0 3 7.1") ≡ None
  pub no_change : action_of 6 (codes "issue 1") ≡ None
