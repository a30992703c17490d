-- Counted acknowledgements, as the model's client keeps them.
use Rattle.std.specs.Prelude.{◌≡◌, ℕ, ◌<◌, List, [], ◌∷◌, ◌++◌, map, max, length, slice_index_or, slice_set}
use Rattle.volume_model.specs.Client as model
use Rattle.volume_model.specs.Common.{with_count}
use Rattle.writer_core.specs.declared.count.Count.{Count}

-- the count of the model for a count
abbrev pub count_of : Count → model.Count
count_of count = record { sender = count.sender; reached = count.reached }

-- the counts of a group
abbrev pub counts_of : List Count → List model.Count
counts_of counts = map count_of counts

-- none of the counts is this sender's, so that its first one is appended
abbrev pub IsNew : ℕ → List Count → Type 0
IsNew sender counts = (reached : ℕ) → with_count sender reached (counts_of counts) ≡ counts_of counts
    ++ record { sender = sender; reached = reached } ∷ []

-- the sender's count is at this place, where the greater number is kept
pub record IsPlaceOf (sender : ℕ) (counts : List Count) (place : ℕ) : Type 0 where
  pub within : place < length counts
  pub kept : (count : Count) → count ≡ slice_index_or counts place count → (reached : ℕ) → with_count sender reached
      (counts_of counts) ≡ slice_set (counts_of counts) place
      (record { sender = count.sender; reached = max count.reached reached })
