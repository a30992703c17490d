pub mod Parted
pub mod Runs
