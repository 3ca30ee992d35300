pub mod Bits
pub mod Theorems
pub mod Cases
