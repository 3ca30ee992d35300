pub mod After
pub mod Kr
pub mod Mdio
