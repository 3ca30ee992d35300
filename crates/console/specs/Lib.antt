pub mod Moved
pub mod Turn
pub mod Ahead
pub mod Ending
pub mod Talk
pub mod Opened
