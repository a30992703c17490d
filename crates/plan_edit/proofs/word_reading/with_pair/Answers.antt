use Rattle.std.proofs.Common.{◌≡◌, ◌<◌, ◌∙◌, sym, subst, refl, arith, length, get_or-set_other, get_or-set_same}
use Rattle.std.proofs.lemmas.Bool.{false≢true}
use Rattle.plan_edit.proofs.Spans.{has_new, has_old}
use Rattle.plan_edit.proofs.word_reading.with_pair.Goals as goal

pub returns : goal.returns
returns c =
    let at = c.in_ok-of.of in
    let members = c.args.weights.members in
    let place : c.from.result ≡ at = c.from.ensures in
    let within : c.from.result < length c.args.weights.of = omega (arith, c.args.weights.whole, place, c.in_ok-of.ensures.below) in
    record {
      member = at;
      weight = c.in_ok-of.weight;
      pair = c.in_ok-of.ensures.pair;
      was = λ is. false≢true (sym c.if-contains.false ∙ c.contains.ensures.is_in ∙ is);
      has = rw c.with.ensures (has_new members at at refl);
      keeps = λ other had. rw c.with.ensures (has_old members at other had);
      is = rw place (get_or-set_same c.args.weights.of at c.in_ok-of.weight 1 (subst (λ n. n < length c.args.weights.of) place within));
      others = λ other apart. rw place (get_or-set_other c.args.weights.of at other c.in_ok-of.weight 1 apart);
    }
