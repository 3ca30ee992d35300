pub mod Part
pub mod Input
pub mod Due
pub mod Output
pub mod Batch
