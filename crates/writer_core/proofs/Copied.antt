-- Changes that are copied.
use Rattle.std.proofs.Common.{◌≡◌, List, [], ◌∷◌, refl, ap₂}
use Rattle.std.specs.List.{AllZip}
use Rattle.volume_model.specs.ClientWriter as model
use Rattle.writer_core.specs.declared.change.Change.{Change}
use Rattle.writer_core.specs.Changes.{change_of, changes_of}

-- changes that are copied one by one
pub copied : (changes copies : List Change) → AllZip (λ change copy. change_of copy ≡ change_of change) changes copies → changes_of copies ≡ changes_of changes
copied [] [] h = refl
copied [] (y ∷ ys) h = absurd h
copied (x ∷ xs) [] h = absurd h
copied (x ∷ xs) (y ∷ ys) h = ap₂ (λ (c : model.Change) (cs : List model.Change). c ∷ cs) h.0 (copied xs ys h.1)
