pub mod Conversation
pub mod Run
pub mod Session
pub mod Windows
pub mod Cases
pub mod Pauses
pub mod Lists
