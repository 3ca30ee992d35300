pub mod Prepare
pub mod Link
