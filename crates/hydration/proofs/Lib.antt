pub mod CopiesMore
pub mod Gathering
pub mod Marks
pub mod Bringing
pub mod Fair
pub mod Readying
