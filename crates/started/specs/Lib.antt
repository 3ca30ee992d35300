pub mod Operation
pub mod Standing
