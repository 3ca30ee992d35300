-- The MDIO command: the fields of IEEE 802.3 Clause 45 in Intel's MSCA
use Rattle.std.specs.Prelude.{ℕ, ◌+◌, ◌*◌, ◌/◌, ◌%◌, ◌^◌, ◌<◌, Bool, bit_or}
use Rattle.hardware.specs.Bits.{bit}
use Rattle.hardware.specs.Talk.{pick}
use Rattle.words.specs.Shift.{shl}
use Rattle.words.specs.declared.msca.Command.{Command}

-- register in bits 0 to 15, device 16 to 20, PHY 21 to 25, operation 26 and 27, go in bit 30; what is too wide is cut
unfoldable pub command : Command → ℕ
command c =
    c.register + c.device % 32 * 2 ^ 16 + c.phy % 32 * 2 ^ 21 + c.operation % 4 * 2 ^ 26 + pick c.go (2 ^ 30) 0

unfoldable pub fields : ℕ → Command
fields word = record {
  register = word % 2 ^ 16;
  device = word / 2 ^ 16 % 32;
  phy = word / 2 ^ 21 % 32;
  operation = word / 2 ^ 26 % 4;
  go = bit 30 word;
}

-- each field within its width
pub record Within (c : Command) : Type 0 where
  pub register : c.register < 2 ^ 16
  pub device : c.device < 32
  pub phy : c.phy < 32
  pub operation : c.operation < 4

-- mdio.rs `address`, as it stands there: a PHY or device above 31 runs into the next field
unfoldable pub address : ℕ → ℕ → ℕ → ℕ
address phy dev reg = bit_or (bit_or reg (shl dev 16)) (shl phy 21)

abbrev pub OP-WRITE : ℕ
OP-WRITE = shl 1 26

abbrev pub OP-READ : ℕ
OP-READ = shl 3 26

abbrev pub COMMAND : ℕ
COMMAND = shl 1 30

-- the words that mdio.rs writes to MSCA
unfoldable pub address_cycle : ℕ → ℕ → ℕ → ℕ
address_cycle phy dev reg = bit_or (address phy dev reg) COMMAND

unfoldable pub read_cycle : ℕ → ℕ → ℕ → ℕ
read_cycle phy dev reg = bit_or (bit_or (address phy dev reg) OP-READ) COMMAND

unfoldable pub write_cycle : ℕ → ℕ → ℕ → ℕ
write_cycle phy dev reg = bit_or (bit_or (address phy dev reg) OP-WRITE) COMMAND

-- the document's word for one cycle: operation 0 is address, 1 write, 3 read
abbrev pub cycle : ℕ → ℕ → ℕ → ℕ → Bool → ℕ
cycle operation phy dev reg go = command (record { register = reg; device = dev; phy = phy; operation = operation; go = go })
