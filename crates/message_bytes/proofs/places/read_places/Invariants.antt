use Rattle.std.proofs.Common.{◌≡◌, ◌-◌, [], map}
use Rattle.wire.specs.Common.{place_of}
use Rattle.message_bytes.specs.Reading.{places_at}
use Rattle.message_bytes.proofs.places.read_places.Given as goal

abbrev pub invariant-loop : goal.invariant-loop
invariant-loop l = places_at (l.count - l.counter) (map place_of l.places.items) l.rest ≡ places_at l.count [] l.bytes
