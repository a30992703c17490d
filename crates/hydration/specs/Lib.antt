pub mod Copies
pub mod Kept
pub mod Pieces
pub mod Changes
pub mod KeptCopies
pub mod Hydration
