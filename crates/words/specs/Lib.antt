pub mod Shift
pub mod Semaphore
pub mod Mdio
pub mod Phy
pub mod Kr
pub mod Link
pub mod Hostif
pub mod Cases
