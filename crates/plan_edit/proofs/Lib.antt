pub mod RenamedLaws
pub mod Sets
pub mod Behind
pub mod Rooted
pub mod Spans
pub mod WeightLaws
