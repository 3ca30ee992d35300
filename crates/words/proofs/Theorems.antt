pub mod Semaphore
pub mod Mdio
pub mod Phy
pub mod Link
pub mod Hostif
