-- SWSM and SW_FW_SYNC of each family
use Rattle.hardware.specs.declared.Family.{Family}
use Rattle.hardware.specs.declared.Family.TheVariants.{X552, X553}
use Rattle.hardware.specs.declared.Regs.{Regs}

-- sync.rs:47
abbrev pub regs : Family → Regs
regs X552 = record { swsm = 0x10140; sync = 0x10160 }
regs X553 = record { swsm = 0x15f70; sync = 0x15f78 }
