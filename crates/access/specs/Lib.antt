pub mod Frame
pub mod Body
pub mod Access
