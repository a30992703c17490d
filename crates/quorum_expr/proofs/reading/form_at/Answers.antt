use Rattle.std.proofs.Common.{Ok, Err, sym, ap, ◌∙◌, if◌then◌else◌}
use Rattle.std.proofs.lemmas.Result.{err_from_is_err_and}
use Rattle.volume_model.specs.Common.{◌>>=◌}
use Rattle.volume_model.specs.declared.fault.Fault.TheVariants.{Malformed}
use Rattle.quorum_expr.specs.Reading.{choice_of, single}
use Rattle.quorum_expr.proofs.Levels.{Fails-at}
use Rattle.quorum_expr.proofs.NodeForms.{number_form, keyed_form, no_form}
use Rattle.quorum_expr.proofs.reading.form_at.Goals as goal
use Rattle.std.proofs.lemmas.Grind.{common_steps}
use Rattle.std.proofs.Common.{arith}

pub returns-in_err-whole : goal.returns-in_err-whole
returns-in_err-whole g c = grind (arith, common_steps, c.from_residual.ensures.1, c.if-is_number.ensures, c.in_err-whole.ensures.given, err_from_is_err_and, number_form, Fails-at, Ok)

pub returns-then-is_number : goal.returns-then-is_number
returns-then-is_number g c = number_form c.args.lists.now (g.N.Node.means c.args.value.now) (sym c.if-is_number.ensures) ∙ ap (λ r. r >>= λ m. Ok (single m)) c.in_ok-whole.ensures.given

pub returns-in_default : goal.returns-in_default
returns-in_default g c = no_form c.args.lists.now (g.N.Node.means c.args.value.now) (sym c.if-is_number.ensures) (sym c.in_default.is ∙ c.keys.ensures)

pub returns-then-not-is_good_keys : goal.returns-then-not-is_good_keys
returns-then-not-is_good_keys g c =
    let lists = c.args.lists.now in
    let d = g.N.Node.means c.args.value.now in
    keyed_form lists d c.in-Some.keys c.in-Some.ensures ∙ ap (λ b. if b then choice_of lists c.in-Some.keys d else Err Malformed) (sym c.if-not-is_good_keys.ensures)

pub returns : goal.returns
returns g c =
    let lists = c.args.lists.now in
    let d = g.N.Node.means c.args.value.now in
    rw (keyed_form lists d c.in-Some.keys c.in-Some.ensures ∙ ap (λ b. if b then choice_of lists c.in-Some.keys d else Err Malformed) (sym c.if-not-is_good_keys.ensures)) c.choice.ensures
