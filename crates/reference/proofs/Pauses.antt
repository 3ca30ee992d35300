-- The functions with two pauses are alike but for the sideband's waits
pub mod Sync
pub mod Hostif
pub mod Acquire
pub mod Mdio
pub mod X552
pub mod X553
