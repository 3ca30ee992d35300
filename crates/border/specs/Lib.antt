pub mod Held
pub mod Port
pub mod Border
