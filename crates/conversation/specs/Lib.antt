pub mod Begun
pub mod Conversation
pub mod Hold
pub mod Run
pub mod Lent
