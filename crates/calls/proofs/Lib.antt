pub mod Laws
pub mod Runs
pub mod Bounds
pub mod Counts
pub mod Theorems
pub mod Windows
pub mod Cases
pub mod Lists
mod Examples
pub mod Pauses
