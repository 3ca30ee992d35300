pub mod Bits
pub mod Talk
pub mod Told
pub mod Block
pub mod Numbers
pub mod Refusal
pub mod Bound
pub mod Regs
