-- One message more, for one group more.
use Rattle.std.proofs.Common.{◌≡◌, ℕ, ◌+◌, ◌<◌, Bool, true, false, ◌&&◌, not, nat_lt, List, [], ◌∷◌, ◌++◌, length, get_or, map, sym, ap, ◌∙◌, append-nil, add-one}
use Rattle.std.proofs.lemmas.List.{map-append}
use Rattle.volume_model.specs.Common.{each_below, joined, place_in, ClientGroup, group_of, place_of, later_in, later_unjoined}
use Rattle.volume_model.proofs.Basics.{joined-append}
use Rattle.volume_model.specs.Message as model
use Rattle.wire.specs.declared.label.Place.{Place}
use Rattle.wire.specs.declared.message.Message.{Message}
use Rattle.wire.specs.Message as wire
use Rattle.wire.specs.Common.{message_of, messages_of}
use Rattle.writer_core.proofs.Below.{place_in-at}
use Rattle.std.proofs.lemmas.Grind.{common_steps}
use Rattle.std.proofs.Common.{arith}

pub message-more : (old new : List Message) (m : Message) (i : ℕ) (test : ℕ → Bool) (f : ℕ → model.Message) → new ≡ old ++ m ∷ [] → messages_of old ≡ each_below i test f → test i ≡ true → message_of m ≡ f i → messages_of new ≡ each_below (i + 1) test f
message-more old new m i test f is before passes said = grind (arith, common_steps)

pub message-none : (old new : List Message) (i : ℕ) (test : ℕ → Bool) (f : ℕ → model.Message) → new ≡ old → messages_of old ≡ each_below i test f → test i ≡ false → messages_of new ≡ each_below (i + 1) test f
message-none old new i test f is before fails = grind (arith, common_steps)

-- the messages of one group more, behind those of the groups before it
pub messages-more : (old new made : List Message) (i : ℕ) (test : ℕ → Bool) (f : ℕ → List model.Message) → new ≡ old ++ made → messages_of old ≡ joined (each_below i test f) → test i ≡ true → messages_of made ≡ f i → messages_of new ≡ joined (each_below (i + 1) test f)
messages-more old new made i test f is before passes said = grind (arith, common_steps, map-append, append-nil, joined-append, add-one)

pub messages-none : (old new : List Message) (i : ℕ) (test : ℕ → Bool) (f : ℕ → List model.Message) → new ≡ old → messages_of old ≡ joined (each_below i test f) → test i ≡ false → messages_of new ≡ joined (each_below (i + 1) test f)
messages-none old new i test f is before fails = grind (arith, common_steps)

-- the place of a group, as it is read
pub place-is : (places : List Place) (i k : ℕ) (d : Place) → i < length places → k ≡ i → place_in (map wire.place_of places) i ≡ wire.place_of (get_or places k d)
place-is places i k d within same = place_in-at places i d within ∙ ap (λ n. wire.place_of (get_or places n d)) (sym same)

-- whether a place raises its group
pub raised-is : (groups : List ClientGroup) (places : List Place) (i k e : ℕ) (d : Place) (b : Bool) → i < length places → k ≡ i → e ≡ (place_of groups i).epoch → nat_lt e (get_or places k d).epoch ≡ b → later_in (place_of groups) (place_in (map wire.place_of places)) i ≡ b
raised-is groups places i k e d b within same is test = grind (arith, common_steps, place-is)

-- whether it raises its group, and the group hasn't joined
pub unjoined-is : (groups : List ClientGroup) (places : List Place) (i k e : ℕ) (d : Place) (has : Bool) (b c : Bool) → i < length places → k ≡ i → e ≡ (place_of groups i).epoch → nat_lt e (get_or places k d).epoch ≡ b → has ≡ (group_of groups i).joined → (b && not has) ≡ c
    → later_unjoined groups (place_in (map wire.place_of places)) i ≡ c
unjoined-is groups places i k e d has b c within same is test joins both = grind (arith, common_steps, (raised-is groups places i k e d b within same is test))
