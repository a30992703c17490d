-- Files whose bytes are known.
use Rattle.std.specs.Prelude.{ℕ, List, Option, IfSome, take}
use Rattle.commands.specs.Streams.{left_of}
use Rattle.commands.specs.Verdict.{IsCertifiedText, IsFaultyText}
use Rattle.commands.specs.declared.files.Source.{Source}

-- If a file's bytes are known, they are the text of a plan without a fault, which is certified.
abbrev pub HoldsCertified : {R : Type 0} → (R → Option (List ℕ)) → Source R → Type 0
HoldsCertified remaining file = IfSome (left_of remaining file) (λ bytes. IsCertifiedText (take 16777217 bytes))

-- If a file's bytes are known, they have a fault as a plan's text.
abbrev pub HoldsFault : {R : Type 0} → (R → Option (List ℕ)) → Source R → Type 0
HoldsFault remaining file = IfSome (left_of remaining file) (λ bytes. IsFaultyText (take 16777217 bytes))
