-- Bytes of a snapshot that are handed out.
use Rattle.std.specs.Prelude.{◌≡◌, ◌≢◌, ◌<◌, ◌≤◌, ℕ, List, [], ◌++◌, Option, drop, length, take}
use Rattle.volume_c.specs.declared.actor.Held.{Held}
use Rattle.volume_c.specs.View.{View, ASnapshot, seen, unsent}

-- The first bytes of a snapshot, one at least, stand at the front of the buffer, whose other bytes are as they were. The
-- rest is left.
pub record HandsOut (count : ℕ) (old new : View) (before after : List ℕ) : Type 0 where
  pub left : List ℕ
  pub was : old ≡ ASnapshot (take count after ++ left)
  pub is : new ≡ ASnapshot left
  pub some : 0 < count
  pub within : count ≤ length before
  pub back : drop count after ≡ drop count before

-- A call that hands out the next bytes. Status 93: none were left. Any other status but 0: nothing has changed.
pub record ReadsNext (status : ℕ) (old new : Option Held) (count : ℕ) (before after : List ℕ) : Type 0 where
  pub ok : status ≡ 0 → HandsOut count (seen old) (seen new) before after
  pub done : status ≡ 93 → seen old ≡ ASnapshot []
  pub unchanged : status ≢ 0 → (seen new ≡ seen old) × (unsent new ≡ unsent old) × (after ≡ before)
  pub own : status ≢ 0 → 90 ≤ status
