pub mod Operations
pub mod Pairs
pub mod Windows
pub mod Counted
pub mod Request
pub mod Bounds
pub mod Example
