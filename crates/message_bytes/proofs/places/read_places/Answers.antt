use Rattle.std.proofs.Common.{[], ◌∷◌, Ok, map, ap, sym, ◌∙◌}
use Rattle.std.proofs.lemmas.List.{map-append}
use Rattle.std.proofs.lemmas.Result.{err_from_is_err_and}
use Rattle.wire.specs.Common.{place_of}
use Rattle.message_bytes.specs.Reading.{places_at}
use Rattle.message_bytes.proofs.Loop.{places, read-on, read-short, read-done}
use Rattle.message_bytes.proofs.places.read_places.Goals as goal

pub returns-in_err-place : goal.returns-in_err-place
returns-in_err-place c =
    let p = err_from_is_err_and c.from_residual.result c.from_residual.ensures.1 in
    rw (p.1, p.2) (read-short places c.in_err-place.field-0.0 c.args.count c.loop.counter (map place_of c.loop.places.items) c.loop.rest.now (places_at c.args.count [] c.args.bytes.now) c.loop-test.true c.in_err-place.ensures c.loop.invariant)

pub loop-preserved : goal.loop-preserved
loop-preserved c =
    read-on places c.args.count c.loop.counter (map place_of c.loop.places.items) (map place_of c.push.new.self.items) c.loop.rest.now c.in_ok-place.after.now (place_of c.in_ok-place.place) (places_at c.args.count [] c.args.bytes.now)
    c.loop-test.true c.in_ok-place.ensures (ap Ok (sym (ap (map place_of) c.in_ok-push.ensures.items ∙ map-append place_of c.loop.places.items (c.in_ok-place.place ∷ [])))) c.loop.invariant

pub returns : goal.returns
returns c = read-done places c.args.count c.loop.counter (map place_of c.loop.places.items) c.loop.rest.now (places_at c.args.count [] c.args.bytes.now) c.loop-test.false c.loop.invariant
