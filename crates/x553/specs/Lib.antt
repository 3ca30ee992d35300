pub mod Firmware
pub mod Prepare
pub mod Sgmii
pub mod SgmiiAn
