use Rattle.std.proofs.Common.{◌≡◌, get_or, sym, subst, slice_set}
use Rattle.cert_search.specs.Places.{ArePlaces}
use Rattle.cert_search.proofs.Places.{emptied, taken}
use Rattle.cert_search.proofs.filling.take_out.Goals as goal

pub returns-clause-places : goal.returns-clause-places
returns-clause-places c = λ budget claims are.
    subst (λ p. ArePlaces budget claims (slice_set c.args.places.now.items c.args.at p)) (sym c.take.ensures.after)
    (emptied budget claims c.args.places.now.items c.args.at are)

pub returns-clause-answer : goal.returns-clause-answer
returns-clause-answer c = λ budget claims are.
    taken budget claims c.args.places.now.items c.args.at c.take.result are
    c.requires.at (subst (λ p. p ≡ get_or c.args.places.now.items c.args.at p) (sym c.take.ensures.value) c.index_mut.ensures.value)
