mod NodeSteps
pub mod Acting
pub mod Exactly
pub mod Judged
pub mod Ruling
pub mod Back
pub mod Homes
pub mod Knowing
pub mod Letters
pub mod Mails
pub mod Steps
pub mod Calling
pub mod Ending
pub mod Missing
pub mod Crossing
