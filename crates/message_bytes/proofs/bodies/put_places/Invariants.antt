use Rattle.std.proofs.Common.{◌≡◌, ◌++◌, take, map}
use Rattle.wire.specs.Common.{place_of}
use Rattle.message_bytes.specs.Spelling.{places_spelled, ArePlaces}
use Rattle.message_bytes.proofs.bodies.put_places.Given as goal

abbrev pub invariant-loop-place : goal.invariant-loop-place
invariant-loop-place l = (l.out.items ≡ l.initial.out.items ++ places_spelled (map place_of (take l.place-index l.places))) × ArePlaces (map place_of (take l.place-index l.places))
