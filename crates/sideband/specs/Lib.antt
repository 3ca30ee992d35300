pub mod Idle
pub mod Kr
pub mod Nvm
