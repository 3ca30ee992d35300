-- The commands that read_reg and write_reg write to MSCA are the public document's words for their fields
use Rattle.hardware.specs.Talk.{Call, ◌>>=◌, ◌>>◌, read_raw, write, return}
use Prim.Native.Nat.{ℕ, ◌/◌, ◌^◌, ◌<◌}
use mathlib.Core.Bool.{true}
use mathlib.Core.Path.{◌≡◌, ap₂}
use Rattle.words.specs.Mdio.{address, address_cycle, read_cycle, write_cycle}
use Rattle.words.specs.Mdio as document
use Rattle.words.proofs.Theorems.Mdio.{address_cycle_document, read_cycle_document, write_cycle_document}
use Rattle.reference.specs.Mdio.{cycle, cycle_times, read_body, write_body}

-- a cycle, by the word that it writes
abbrev pub written : ℕ → Call (Unit {0})
written word =
    do
      write 0x425c word
      cycle_times 100 0

-- operation 0 is address, 1 write, 3 read; an address above 31 is refused before
module _ (phy dev reg : ℕ) (p : phy < 32) (d : dev < 32) (r : reg < 2 ^ 16) where
  abbrev said : ℕ → Call (Unit {0})
  said operation = written (document.cycle operation phy dev reg true)

  abbrev read_said : Call (Unit {0}) → Call (Unit {0}) → Call ℕ
  read_said s t =
      do
        s
        t
        v ← read_raw 0x4260
        return (v / 2 ^ 16)

  abbrev write_said : ℕ → Call (Unit {0}) → Call (Unit {0}) → Call (Unit {0})
  write_said value s t =
      do
        write 0x4260 value
        s
        t

  pub read_said_lem : read_body (address phy dev reg) ≡ read_said (said 0) (said 3)
  unfolding cycle address_cycle read_cycle
  read_said_lem = ap₂ (λ a b. read_said (written a) (written b)) (address_cycle_document phy dev reg p d r) (read_cycle_document phy dev reg p d r)

  pub write_said_lem : (value : ℕ) → write_body (address phy dev reg) value ≡ write_said value (said 0) (said 1)
  unfolding cycle address_cycle write_cycle
  write_said_lem value = ap₂ (λ a b. write_said value (written a) (written b)) (address_cycle_document phy dev reg p d r) (write_cycle_document phy dev reg p d r)
