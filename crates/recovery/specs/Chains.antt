-- Chains of records by prev_volume.
use Rattle.std.specs.Prelude.{◌≡◌, ℕ, Bool, true, ◌==◌, ◌&&◌, if◌then◌else◌, List, [], ◌∷◌}
use Rattle.volume_model.specs.Common.{added, Redo}

-- the list, newest first, is a chain: each record links to the one before it, the oldest to 0, and the newest has this
-- LSN, which is 0 if there is none
abbrev pub is_chain_to : ℕ → List Redo → Bool
is_chain_to lsn [] = lsn == 0
is_chain_to lsn (r ∷ older) = r.lsn == lsn && is_chain_to r.prev_volume older

abbrev pub IsChainTo : ℕ → List Redo → Type 0
IsChainTo lsn log = is_chain_to lsn log ≡ true

-- the chain by prev_volume from LSN n leads through the log down to 0
abbrev pub leads : List Redo → ℕ → Bool
leads [] n = n == 0
leads (r ∷ older) n = if r.lsn == n then leads older r.prev_volume else leads older n

-- the records, in order, go on from each chain that has the first LSN, and the whole has the second
abbrev pub GoesOn : ℕ → List Redo → ℕ → Type 0
GoesOn last records end = (older : List Redo) → IsChainTo last older → IsChainTo end (added records older)

-- a log, newest first, up to its last consistency point
abbrev pub up_to_point : List Redo → List Redo
up_to_point [] = []
up_to_point (r ∷ older) = if r.point then r ∷ older else up_to_point older
