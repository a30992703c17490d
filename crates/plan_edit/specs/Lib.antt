pub mod Renamed
pub mod Drafts
pub mod Replaced
pub mod Edited
pub mod NewPlans
pub mod Requests
pub mod Words
pub mod Survivals
