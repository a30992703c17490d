-- A message is spelled by exactly the bytes that it was read from.
use Rattle.std.proofs.Common.{◌≡◌, ℕ, Bool, true, false, not, ◌==◌, List, [], ◌∷◌, Ok, Err, if◌then◌else◌, ◌⊎◌, inl, inr, refl, arith}
use Rattle.std.proofs.lemmas.Bool.{eqb-true, ltb-false, not-false}
use Rattle.std.proofs.lemmas.List.{append-nil, nil_from_length}
use Rattle.volume_model.specs.declared.fault.Fault.TheVariants.{BadField}
use Rattle.volume_model.specs.Common.{Message}
use Rattle.message_bytes.specs.Contents.{Read}
use Rattle.message_bytes.specs.Reading.{view_at, step_at, fence_at, report_at, install_at, write_at, gossip_at, ack_at, copy_ask_at, copy_report_at, page_ask_at, page_at, body_at, version_at, message_in}
use Rattle.message_bytes.specs.Spelling.{tagged_spelled, message_spelled}
use Rattle.message_bytes.proofs.Fields.{IsBytes, bind_ok, guard_ok, ok_is, Takes, byte_takes}
use Rattle.message_bytes.proofs.Fielded.{view_takes, step_takes, fence_takes, report_takes, install_takes, write_takes, gossip_takes, ack_takes, copy_ask_takes, copy_report_takes, page_ask_takes, page_takes}
use Rattle.std.proofs.lemmas.Grind.{common_steps}
use Rattle.std.proofs.Common.{rules}

-- a choice that did not fail took one of its sides
picked : {A : Type 0} (b : Bool) (x y z : A) → (if b then x else y) ≡ z → ((b ≡ true) × (x ≡ z)) ⊎ (y ≡ z)
picked true x y z e = inl (refl, e)
picked false x y z e = inr e

abbrev from-12 : ℕ → List ℕ → Read Message
from-12 kind bytes = if kind == 12 then page_at bytes else Err BadField

found-12 : (kind : ℕ) (bytes : List ℕ) (x : Message × List ℕ) → IsBytes bytes → from-12 kind bytes ≡ Ok x → Takes (kind ∷ bytes) (tagged_spelled x.0) x.1
found-12 kind bytes x fits e = grind (arith, common_steps, picked, Err, Ok, Takes, eqb-true, page_takes)

abbrev from-11 : ℕ → List ℕ → Read Message
from-11 kind bytes = if kind == 11 then page_ask_at bytes else from-12 kind bytes

found-11 : (kind : ℕ) (bytes : List ℕ) (x : Message × List ℕ) → IsBytes bytes → from-11 kind bytes ≡ Ok x → Takes (kind ∷ bytes) (tagged_spelled x.0) x.1
found-11 kind bytes x fits e = grind (arith, common_steps, picked, from-12, Ok, Takes, eqb-true, page_ask_takes, found-12)

abbrev from-10 : ℕ → List ℕ → Read Message
from-10 kind bytes = if kind == 10 then copy_report_at bytes else from-11 kind bytes

found-10 : (kind : ℕ) (bytes : List ℕ) (x : Message × List ℕ) → IsBytes bytes → from-10 kind bytes ≡ Ok x → Takes (kind ∷ bytes) (tagged_spelled x.0) x.1
found-10 kind bytes x fits e = grind (arith, common_steps, picked, from-11, Ok, Takes, eqb-true, copy_report_takes, found-11)

abbrev from-9 : ℕ → List ℕ → Read Message
from-9 kind bytes = if kind == 9 then copy_ask_at bytes else from-10 kind bytes

found-9 : (kind : ℕ) (bytes : List ℕ) (x : Message × List ℕ) → IsBytes bytes → from-9 kind bytes ≡ Ok x → Takes (kind ∷ bytes) (tagged_spelled x.0) x.1
found-9 kind bytes x fits e = grind (arith, common_steps, picked, from-10, Ok, Takes, eqb-true, copy_ask_takes, found-10)

abbrev from-8 : ℕ → List ℕ → Read Message
from-8 kind bytes = if kind == 8 then ack_at bytes else from-9 kind bytes

found-8 : (kind : ℕ) (bytes : List ℕ) (x : Message × List ℕ) → IsBytes bytes → from-8 kind bytes ≡ Ok x → Takes (kind ∷ bytes) (tagged_spelled x.0) x.1
found-8 kind bytes x fits e = grind (arith, common_steps, picked, from-9, Ok, Takes, eqb-true, ack_takes, found-9)

abbrev from-7 : ℕ → List ℕ → Read Message
from-7 kind bytes = if kind == 7 then gossip_at bytes else from-8 kind bytes

found-7 : (kind : ℕ) (bytes : List ℕ) (x : Message × List ℕ) → IsBytes bytes → from-7 kind bytes ≡ Ok x → Takes (kind ∷ bytes) (tagged_spelled x.0) x.1
found-7 kind bytes x fits e = grind (arith, common_steps, picked, from-8, Ok, Takes, eqb-true, gossip_takes, found-8)

abbrev from-6 : ℕ → List ℕ → Read Message
from-6 kind bytes = if kind == 6 then write_at bytes else from-7 kind bytes

found-6 : (kind : ℕ) (bytes : List ℕ) (x : Message × List ℕ) → IsBytes bytes → from-6 kind bytes ≡ Ok x → Takes (kind ∷ bytes) (tagged_spelled x.0) x.1
found-6 kind bytes x fits e = grind (arith, common_steps, picked, from-7, Ok, Takes, eqb-true, write_takes, found-7)

abbrev from-5 : ℕ → List ℕ → Read Message
from-5 kind bytes = if kind == 5 then install_at bytes else from-6 kind bytes

found-5 : (kind : ℕ) (bytes : List ℕ) (x : Message × List ℕ) → IsBytes bytes → from-5 kind bytes ≡ Ok x → Takes (kind ∷ bytes) (tagged_spelled x.0) x.1
found-5 kind bytes x fits e = grind (arith, common_steps, picked, from-6, Ok, Takes, eqb-true, install_takes, found-6)

abbrev from-4 : ℕ → List ℕ → Read Message
from-4 kind bytes = if kind == 4 then report_at bytes else from-5 kind bytes

found-4 : (kind : ℕ) (bytes : List ℕ) (x : Message × List ℕ) → IsBytes bytes → from-4 kind bytes ≡ Ok x → Takes (kind ∷ bytes) (tagged_spelled x.0) x.1
found-4 kind bytes x fits e = grind (arith, common_steps, picked, from-5, Ok, Takes, eqb-true, report_takes, found-5)

abbrev from-3 : ℕ → List ℕ → Read Message
from-3 kind bytes = if kind == 3 then fence_at bytes else from-4 kind bytes

found-3 : (kind : ℕ) (bytes : List ℕ) (x : Message × List ℕ) → IsBytes bytes → from-3 kind bytes ≡ Ok x → Takes (kind ∷ bytes) (tagged_spelled x.0) x.1
found-3 kind bytes x fits e = grind (arith, common_steps, picked, from-4, Ok, Takes, eqb-true, fence_takes, found-4)

abbrev from-2 : ℕ → List ℕ → Read Message
from-2 kind bytes = if kind == 2 then step_at bytes else from-3 kind bytes

found-2 : (kind : ℕ) (bytes : List ℕ) (x : Message × List ℕ) → IsBytes bytes → from-2 kind bytes ≡ Ok x → Takes (kind ∷ bytes) (tagged_spelled x.0) x.1
found-2 kind bytes x fits e = grind (arith, common_steps, picked, from-3, Ok, Takes, eqb-true, step_takes, found-3)

abbrev from-1 : ℕ → List ℕ → Read Message
from-1 kind bytes = if kind == 1 then view_at bytes else from-2 kind bytes

found-1 : (kind : ℕ) (bytes : List ℕ) (x : Message × List ℕ) → IsBytes bytes → from-1 kind bytes ≡ Ok x → Takes (kind ∷ bytes) (tagged_spelled x.0) x.1
found-1 kind bytes x fits e = grind (arith, common_steps, picked, from-2, Ok, Takes, eqb-true, view_takes, found-2)

pub body_takes : (kind : ℕ) (bytes : List ℕ) (x : Message × List ℕ) → IsBytes bytes → body_at kind bytes ≡ Ok x → Takes (kind ∷ bytes) (tagged_spelled x.0) x.1
unfolding body_at
body_takes kind bytes x fits e = found-1 kind bytes x fits e

version_takes : (bytes : List ℕ) (x : ℕ × List ℕ) → IsBytes bytes → version_at bytes ≡ Ok x → Takes bytes (1 ∷ []) x.1
unfolding version_at
version_takes bytes x fits e = grind (arith, common_steps, bind_ok, guard_ok, not, Ok, eqb-true, not-false, Takes, ok_is, byte_takes)

pub message_found : (bytes : List ℕ) (m : Message) → IsBytes bytes → message_in bytes ≡ Ok m → bytes ≡ message_spelled m
unfolding message_in
message_found bytes m fits e = search (rules, bind_ok, guard_ok, Ok, nil_from_length, ltb-false, version_takes, byte_takes, body_takes, append-nil, ok_is)
