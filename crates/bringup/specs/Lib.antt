pub mod Bringup
