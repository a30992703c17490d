use Rattle.std.proofs.Common.{◌≡◌, ◌⊎◌, inl, inr, List, Option, None, option_map, ap, refl, Bor, ◌≢◌, ℕ}
use Rattle.commands.specs.Places.Reaches.{printed}
use Rattle.commands.proofs.Placed.{to_file}
use Rattle.commands.proofs.placing.place_texts.Goals as goal
use Rattle.commands.proofs.placing.place_texts.Goals.{in_default-via-in-Some+else-status-eq0, in_default-via-in_default}

pub returns-in-Some-clause-reaches : goal.returns-in-Some-clause-reaches
returns-in-Some-clause-reaches g c = λ pretty text shown. rw c.in-Some.is (to_file refl c.if-status-eq0.true shown c.save.ensures.saves)

pub returns-in_default-clause-reaches : goal.returns-in_default-clause-reaches
returns-in_default-clause-reaches g c = λ pretty text shown.
    let name : Option (List ℕ) = option_map (λ (w : Bor (List ℕ)). w.now) c.args.name in
    let unnamed : (name ≡ None) ⊎ (c.args.status ≢ 0) = elim c.in_default.branch [
      | in_default-via-in-Some+else-status-eq0 w ↦ inr w.if-status-eq0.false
      | in_default-via-in_default w ↦ inl (ap (option_map (λ (x : Bor (List ℕ)). x.now)) w.in_default.is)
    ] in
    printed unnamed c.args.text.now shown c.deliver.ensures.delivers refl
