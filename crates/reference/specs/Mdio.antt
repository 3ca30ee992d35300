-- mdio.rs
use Rattle.std.specs.Prelude.{ℕ, ◌+◌, ◌-◌, ◌/◌, ◌^◌, Bool, true, false, not, ◌||◌, eqb, Option, None, Some, List, [], ◌∷◌, ◌++◌}
use Rattle.std.specs.Int.Bits.{bit_and, bit_or}
use Rattle.hardware.specs.Bits.{inverse}
use Rattle.hardware.specs.Talk.{Talk, Res, Call, ◌>>=◌, ◌>>◌, times, pick, is_clear, read, read_raw, write, delay, return, fail}
use Rattle.hardware.specs.Block.{Blk, keep}
use Rattle.hardware.specs.Block as blk
use Rattle.hardware.specs.declared.Error.TheVariants.{Timeout, PhyReset}
use Rattle.hardware.specs.declared.Family.{Family}
use Rattle.hardware.specs.declared.Family.TheVariants.{X552, X553}
use Rattle.hardware.specs.declared.Port.{Port}
use Rattle.words.specs.Mdio.{address, COMMAND, OP-READ, OP-WRITE}
use Rattle.words.specs.Phy.{phy_id}
use Rattle.answers.specs.declared.Speeds.{Speeds}
use Rattle.reference.specs.Sync as sync
use Rattle.reference.specs.Acquire.{locked}

abbrev pub cycle_turn : (ℕ → Call (Unit {0})) → ℕ → Call (Unit {0})
cycle_turn again _ =
    do
      delay 10
      last ← read 0x425c
      pick (is_clear last 0x40000000) (return tt) (again last)

abbrev pub cycle_times : ℕ → ℕ → Call (Unit {0})
cycle_times n = times n cycle_turn (λ last. fail (Timeout 0x425c 0x40000000 0 last))

-- mdio.rs:19
unfoldable pub cycle : ℕ → Call (Unit {0})
cycle command =
    do
      write 0x425c (bit_or command COMMAND)
      cycle_times 100 0

abbrev pub token_of : Family → ℕ
token_of X552 = 0
token_of X553 = 0x40000000

-- mdio.rs:31
unfoldable pub mask : Port → ℕ
mask port = bit_or (sync.phy port.lan) (token_of port.family)

abbrev pub read_body : ℕ → Call ℕ
read_body a =
    do
      cycle a
      cycle (bit_or a OP-READ)
      v ← read_raw 0x4260
      return (v / 2 ^ 16)

-- mdio.rs:40
unfoldable pub read_reg : Port → ℕ → ℕ → ℕ → Call ℕ
read_reg port phy dev reg = locked sync.plain port (mask port) (read_body (address phy dev reg))

-- No function of the Rust: the body of a single read, once for each pair of device and register in order. `values`: those
-- before it
abbrev pub list_body : ℕ → List (ℕ × ℕ) → Blk (Unit {0})
list_body phy [] values = blk.return tt values
list_body phy ((dev, reg) ∷ rest) values =
    blk.◌>>=◌ (keep (read_body (address phy dev reg))) (λ v values. list_body phy rest (values ++ v ∷ [])) values

-- under read_reg's lock, once for all
abbrev pub list_held : Port → ℕ → List (ℕ × ℕ) → Talk (Res (Unit {0}) × List ℕ)
list_held port phy pairs = locked sync.with_values port (mask port) (list_body phy pairs [])

-- an empty list takes nothing
unfoldable pub mdio_list : Port → ℕ → List (ℕ × ℕ) → Talk (Res (Unit {0}) × List ℕ)
mdio_list port phy [] = blk.return tt []
mdio_list port phy (pair ∷ rest) = list_held port phy (pair ∷ rest)

abbrev pub write_body : ℕ → ℕ → Call (Unit {0})
write_body a value =
    do
      write 0x4260 value
      cycle a
      cycle (bit_or a OP-WRITE)

-- mdio.rs:49
unfoldable pub write_reg : Port → ℕ → ℕ → ℕ → ℕ → Call (Unit {0})
write_reg port phy dev reg value = locked sync.plain port (mask port) (write_body (address phy dev reg) value)

-- a closure of the Rust as the bits that it keeps and the bits that it sets
abbrev pub changed : ℕ → ℕ → ℕ → ℕ
changed keep set v = bit_or (bit_and v keep) set

abbrev pub modified : Port → ℕ → ℕ → ℕ → ℕ → Call ℕ
modified port phy dev reg value =
    do
      write_reg port phy dev reg value
      return value

-- mdio.rs:59
unfoldable pub modify : Port → ℕ → ℕ → ℕ → ℕ → ℕ → Call ℕ
modify port phy dev reg keep set =
    do
      v ← read_reg port phy dev reg
      modified port phy dev reg (changed keep set v)

abbrev pub probe_high : Port → ℕ → ℕ → Call (Option ℕ)
probe_high port phy high =
    pick (eqb high 0 || eqb high 0xffff) (return None)
    (do
      low ← read_reg port phy 1 3
      return (phy_id high low))

-- mdio.rs:68
unfoldable pub probe : Port → ℕ → Call (Option ℕ)
probe port phy = read_reg port phy 1 2 >>= probe_high port phy

abbrev pub scan_found : (ℕ → Call (Option (ℕ × ℕ))) → ℕ → Option ℕ → Call (Option (ℕ × ℕ))
scan_found again phy None = again (phy + 1)
scan_found again phy (Some id) = return (Some (phy, id))

abbrev pub scan_turn : Port → (ℕ → Call (Option (ℕ × ℕ))) → ℕ → Call (Option (ℕ × ℕ))
scan_turn port again phy = probe port phy >>= scan_found again phy

abbrev pub scan_from : Port → ℕ → Call (Option (ℕ × ℕ))
scan_from port phy = times (32 - phy) (scan_turn port) (λ _. return None) phy

-- mdio.rs:76
unfoldable pub scan : Port → Call (Option (ℕ × ℕ))
scan port = scan_from port 0

-- after the polls, whatever they saw
abbrev pub reset_last : Port → ℕ → Call (Unit {0})
reset_last port phy =
    do
      v ← read_reg port phy 4 0
      pick (is_clear v 0x8000) (return tt) (fail PhyReset)

abbrev pub reset_done : Port → ℕ → Call (Unit {0})
reset_done port phy = delay 2 >> reset_last port phy

abbrev pub reset_poll : Port → ℕ → Bool → Call (Unit {0}) → Call (Unit {0})
reset_poll port phy x557 again =
    pick x557
    (do
      v ← read_reg port phy 1 0xcc02
      pick (is_clear v 3) again (reset_done port phy))
    (do
      v ← read_reg port phy 4 0
      pick (is_clear v 0x8000) (reset_done port phy) again)

abbrev pub reset_turn : Port → ℕ → Bool → Call (Unit {0}) → Call (Unit {0})
reset_turn port phy x557 again = delay 100000 >> reset_poll port phy x557 again

abbrev pub reset_times : Port → ℕ → Bool → ℕ → Call (Unit {0})
reset_times port phy x557 n = times n (reset_turn port phy x557) (reset_last port phy)

-- mdio.rs:99
unfoldable pub reset : Port → ℕ → Bool → Call (Unit {0})
reset port phy x557 =
    do
      write_reg port phy 4 0 0x8000
      reset_times port phy x557 30

unfoldable pub speeds_of : ℕ → Speeds
speeds_of v = record { g10 = not (is_clear v 1); g1 = not (is_clear v 0x10); m100 = not (is_clear v 0x20) }

-- mdio.rs:122
unfoldable pub abilities : Port → ℕ → Call Speeds
abilities port phy =
    do
      v ← read_reg port phy 1 4
      return (speeds_of v)

-- mdio.rs:127, as the bits to set where the mask's bits are not kept
unfoldable pub bit : ℕ → Bool → ℕ
bit mask on = pick on mask 0

-- 7.c400's bits 10 and 11, 5G and 2.5G: kept, or both set or cleared
unfoldable pub nbase_keep : Option Bool → ℕ
nbase_keep None = inverse 16 0x8000
nbase_keep (Some _) = inverse 16 0x8c00

unfoldable pub nbase_set : Option Bool → Bool → ℕ
nbase_set None g1 = bit 0x8000 g1
nbase_set (Some on) g1 = bit_or (bit 0xc00 on) (bit 0x8000 g1)

abbrev pub advertise_restart : Port → ℕ → Call Bool
advertise_restart port phy =
    do
      modify port phy 7 0 0xffff 0x200
      return true

-- mdio.rs:134
unfoldable pub advertise : Port → ℕ → Speeds → Option Bool → Bool → Call Bool
advertise port phy s nbase veto =
    do
      modify port phy 7 0x20 (inverse 16 0x1000) (bit 0x1000 s.g10)
      modify port phy 7 0xc400 (nbase_keep nbase) (nbase_set nbase s.g1)
      modify port phy 7 0x10 (inverse 16 0x180) (bit 0x100 s.m100)
      pick veto (return false) (advertise_restart port phy)

-- mdio.rs:149
unfoldable pub an_link : Port → ℕ → Call Bool
an_link port phy =
    do
      read_reg port phy 7 1
      v ← read_reg port phy 7 1
      return (not (is_clear v 4))
