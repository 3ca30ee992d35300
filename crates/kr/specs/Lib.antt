pub mod Modify
pub mod Sequence
