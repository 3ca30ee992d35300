pub mod Change
pub mod Watch
