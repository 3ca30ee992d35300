-- hardware.rs `link` and x552.rs `Watch::poll` read the document's fields
use Rattle.std.proofs.Common.{◌≡◌, ℕ, ◌/◌, ◌%◌, ◌^◌, not, eqb}
use lib.Bits.{bit_and, and_mask}
use Rattle.hardware.specs.Bits.{bit}
use Rattle.words.proofs.Bits.{clear}

module _ (links : ℕ) where
  pub up_rust : eqb (bit_and links 0x40000000) 0 ≡ not (bit 30 links)
  up_rust = clear 30 links

  pub non_standard_rust : eqb (bit_and links 0x08000000) 0 ≡ not (bit 27 links)
  non_standard_rust = clear 27 links

  pub speed_rust : bit_and (links / 2 ^ 28) 3 ≡ links / 2 ^ 28 % 4
  speed_rust = and_mask (links / 2 ^ 28) 2

pub status_rust : (status : ℕ) → bit_and status 7 ≡ status % 8
status_rust status = and_mask status 3
