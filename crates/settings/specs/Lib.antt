pub mod Fault
pub mod Records
pub mod Whole
pub mod Calls
pub mod Undamaged
pub mod Past
pub mod Walk
