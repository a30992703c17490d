use Rattle.message_bytes.proofs.Back.{places-more}
use Rattle.message_bytes.proofs.bodies.put_places.Goals as goal

pub loop-place-preserved : goal.loop-place-preserved
loop-place-preserved c =
    places-more c.args.places.now c.loop-place.place-index _ c.loop-place.out.items c.put_place.new.out.items c.args.out.now.items c.loop-place-test.true c.in_ok-put_place.ensures.text c.in_ok-put_place.ensures.fits c.loop-place.invariant
