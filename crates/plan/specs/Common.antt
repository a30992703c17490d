-- The definitions that other crates cite, passed on from one place. Declares nothing.
pub use Rattle.plan.specs.PlanData.{ConfigurationData, PlanData, configuration_at, group_at, model_of}
unfoldable pub use Rattle.plan.specs.PlanFaults.{plan_fault}
pub use Rattle.plan.specs.Plan.{configuration_data, plan_data}
pub use Rattle.plan.specs.CheckedModel.{HasWriteSets, checked_model}
pub use Rattle.plan.specs.PlanText.{◌>=>◌}
unfoldable pub use Rattle.plan.specs.PlanText.{plan_of}
pub use Rattle.plan.specs.FaultKinds.{is_input, kind_of}
pub use Rattle.plan.specs.PlanClaims.{PlacedClaim}
unfoldable pub use Rattle.plan.specs.PlanClaims.{claims_in}
pub use Rattle.plan.specs.NamedClaims.{all_placed, placed}
pub use Rattle.plan.specs.LentClaims.{all_lent, lent_placed, lent_state}
pub use Rattle.plan.specs.FaultText.{claim_text}
pub use Rattle.plan.specs.PlanFaultText.{plan_fault_text}
pub use Rattle.plan.specs.WithCertificates.{with_certificates}
pub use Rattle.plan.specs.Written.{IsCompact, spelt}
unfoldable pub use Rattle.plan.specs.Written.{rewritten}
pub use Rattle.plan.specs.Sums.{sum_below}
pub use Rattle.plan.specs.Shown.{AreShown}
pub use Rattle.plan.specs.Kept.{KeepsValues}
pub use Rattle.plan.specs.Taped.{HasClaims}
