-- A plan with other certificates for its claims.
use Rattle.std.specs.Prelude.{ℕ, ◌+◌, List, [], ◌∷◌, drop, Option, None, slice_index_or}
use Rattle.refutation.specs.Common.{Rule}
use Rattle.plan.specs.PlanData.{ConfigurationData, PlanData, by_parent}

-- the certificate at a place, if there is one
abbrev pub certificate_at : List (Option Rule) → ℕ → Option Rule
certificate_at certificates i = slice_index_or certificates i None

-- the number of claims of a configuration: meets, and step if it has a parent
abbrev pub claim_count : ConfigurationData → ℕ
claim_count x = by_parent x.parent 1 (λ p. 2)

-- the number of claims of configurations
abbrev pub claim_counts : List ConfigurationData → ℕ
claim_counts [] = 0
claim_counts (x ∷ xs) = claim_count x + claim_counts xs

-- the configuration with the first of these certificates for its claims
abbrev pub configuration_with : ConfigurationData → List (Option Rule) → ConfigurationData
configuration_with x certificates = record x {
  meets = certificate_at certificates 0;
  step = by_parent x.parent None (λ p. certificate_at certificates 1);
}

-- the configurations, each with the certificates that remain after those before it
abbrev pub configurations_with : List ConfigurationData → List (Option Rule) → List ConfigurationData
configurations_with [] certificates = []
configurations_with (x ∷ xs) certificates = configuration_with x certificates ∷ configurations_with xs
    (drop (claim_count x) certificates)

-- the same for groups
abbrev pub groups_with : List (List ConfigurationData) → List (Option Rule) → List (List ConfigurationData)
groups_with [] certificates = []
groups_with (xs ∷ groups) certificates = configurations_with xs certificates ∷ groups_with groups
    (drop (claim_counts xs) certificates)

-- The plan whose claims, in their order, have these certificates; all else is unchanged.
abbrev pub with_certificates : PlanData → List (Option Rule) → PlanData
with_certificates plan certificates = record plan { groups = groups_with plan.groups certificates }
