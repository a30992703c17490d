use Rattle.std.proofs.Common.{◌≡◌, ℕ, [], Option, Some, None, MatchBool, refl, sym, ap, ◌∙◌, subst, IsSome}
use Rattle.std.specs.Option.{is_some}
use Rattle.volume_model.specs.Common.{Agree, opening}
use Rattle.volume_model.proofs.Fronts.{prefix_self}
use Rattle.volume_model.proofs.Worlds.{known}
use Rattle.journal.specs.Actors.{seen_who}
use Rattle.journal.specs.Entries.{entries_of}
use Rattle.journal.specs.LastEntries.{last_in, or_zero}
use Rattle.journal.specs.Passes.{world_of}
use Rattle.journal.specs.Tokens.{shown}
use Rattle.journal.proofs.log.Log.has_place.Goals as goal

-- what is so where there is no number
on_none : (o : Option ℕ) {A : Type 0} → (o ≡ None → A) → MatchBool (is_some o) (IsSome o) A
on_none None f = f refl
on_none (Some n) f = refl

pub returns : goal.returns
returns g c =
    let log = c.args.self.now in
    let plan = g.L.Site.plan in
    let actor = seen_who c.args.who in
    let es = entries_of (shown log.entries.items) in
    let Still = Agree actor (opening plan) (world_of log) in
    let absent : last_in log.lasts actor ≡ None → Still = λ none. (known plan actor 0 [] es es (sym (ap or_zero none) ∙ log.newest actor) refl (es, refl) (prefix_self es)).0 in
    subst (λ b. MatchBool b (IsSome (last_in log.lasts actor)) Still) (sym (c.is_some.ensures ∙ ap is_some c.get.ensures)) (on_none (last_in log.lasts actor) absent)
