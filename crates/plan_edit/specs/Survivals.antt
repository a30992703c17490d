-- What a text says that a plan is to survive.
use Rattle.std.specs.Prelude.{◌≡◌, List, ℕ, codes}
use Rattle.plan_edit.specs.Words.{IsSpelled}
use Rattle.plan_edit.specs.declared.word_reading.SurvivalWord.{SurvivalWord}
use Rattle.plan_edit.specs.declared.word_reading.SurvivalWord.TheVariants.{Members, Zone, ZoneAndOne}

-- the text says this: a number of members, `zone` or `zone+1`
abbrev pub IsSurvival : List ℕ → SurvivalWord → Type 0
IsSurvival text (Members n) = IsSpelled text n
IsSurvival text Zone = text ≡ codes "zone"
IsSurvival text ZoneAndOne = text ≡ codes "zone+1"
