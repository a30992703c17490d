-- Messages that the caller takes.
use Rattle.std.specs.Prelude.{◌≡◌, ◌≢◌, ℕ, List, ◌∷◌, Option, take}
use Rattle.volume_model.specs.Message as model
use Rattle.message_bytes.specs.Spelling.{message_spelled}
use Rattle.volume_c.specs.declared.actor.Held.{Held}
use Rattle.volume_c.specs.View.{seen, unsent}

-- Status 0: the first message that was left is at the front of the buffer, and the others are left. Any other: nothing
-- has changed. The actor is the same.
pub record Hands (status : ℕ) (old new : Option Held) (needed : ℕ) (before after : List ℕ) : Type 0 where
  pub ok : status ≡ 0 → (m : model.Message) × (unsent old ≡ m ∷ unsent new)
      × (take needed after ≡ message_spelled m)
  pub unchanged : status ≢ 0 → (unsent new ≡ unsent old) × (after ≡ before)
  pub actor : seen new ≡ seen old
