pub mod Laws
pub mod TwoByTwo
pub mod Bits
pub mod Refusal
pub mod Bounds
