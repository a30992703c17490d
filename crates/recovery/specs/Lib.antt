pub mod Cuts
pub mod Chains
pub mod Reported
pub mod Finds
pub mod Recoveries
pub mod GroundedLsns
pub mod CutReader
