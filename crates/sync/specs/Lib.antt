pub mod Lock
pub mod Bits
pub mod Sync
