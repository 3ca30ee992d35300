-- Actions and microseconds of the functions at the most
pub mod Sync
pub mod Hostif
pub mod Acquire
pub mod Mdio
pub mod X552
pub mod X553
