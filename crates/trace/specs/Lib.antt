pub mod Kinds
pub mod Mdio
pub mod Operation
pub mod Setups
pub mod Kr
pub mod Arguments
