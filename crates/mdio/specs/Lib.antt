pub mod Cycle
pub mod Mdio
