pub mod Contents
pub mod Message
pub mod Listed
pub mod Common
