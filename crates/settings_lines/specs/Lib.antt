pub mod Entry
pub mod Turn
pub mod Answer
pub mod Bytes
