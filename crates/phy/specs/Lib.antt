pub mod Advertise
pub mod AnLink
pub mod Clock
pub mod Modify
pub mod Probe
pub mod Reset
pub mod Scan
