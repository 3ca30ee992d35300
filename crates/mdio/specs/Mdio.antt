-- What the suspended closure of a `read_reg` or `write_reg` still says
use Rattle.hardware.specs.Told.{told}
use Rattle.hardware.specs.declared.Action.{Action}
use Rattle.hardware.specs.declared.Step.{Step}
use Rattle.hardware.specs.Talk.{Call, end, ◌>>=◌, ◌>>◌, read_raw, return, raw, done, Reply, Res}
use Rattle.std.specs.Prelude.{ℕ, ◌/◌, ◌^◌}
use Rattle.std.specs.Int.Bits.{bit_or}
use Rattle.words.specs.Mdio.{OP-READ, OP-WRITE}
use Rattle.reference.specs.Mdio.{cycle, read_body, write_body}
use Rattle.mdio.specs.Cycle.{resume_cycle}
use Rattle.mdio.specs.declared.mdio.Wanted.{Wanted}
use Rattle.mdio.specs.declared.mdio.Wanted.TheVariants as wanted
use Rattle.mdio.specs.declared.mdio.MdioPlace.{MdioPlace}
use Rattle.mdio.specs.declared.mdio.MdioPlace.TheVariants as place
use Rattle.mdio.specs.declared.mdio.Mdio.{Mdio}
use Rattle.mdio.specs.declared.mdio.Mdio.TheVariants as mdio

-- the closure that it is; a write gives 0
abbrev pub body_of : Wanted → Call ℕ
body_of (wanted.Read a) = read_body a
body_of (wanted.Write a v) = write_body a v >> return 0

abbrev pub address_of : Wanted → ℕ
address_of (wanted.Read a) = a
address_of (wanted.Write a v) = a

abbrev pub command_of : Wanted → ℕ
command_of (wanted.Read a) = bit_or a OP-READ
command_of (wanted.Write a v) = bit_or a OP-WRITE

-- what is left after the cycles
abbrev pub mdio_rest : Wanted → Call ℕ
mdio_rest (wanted.Read a) =
    do
      v ← read_raw 0x4260
      return (v / 2 ^ 16)
mdio_rest (wanted.Write a v) = return 0

abbrev pub mdio_operated : Wanted → Call (Unit {0}) → Call ℕ
mdio_operated w t =
    do
      t
      mdio_rest w

abbrev pub mdio_addressed : Wanted → Call (Unit {0}) → Call ℕ
mdio_addressed w t =
    do
      t
      cycle (command_of w)
      mdio_rest w

abbrev pub mdio_cycled : Wanted → MdioPlace → Call (Unit {0}) → Call ℕ
mdio_cycled w place.Address t = mdio_addressed w t
mdio_cycled w place.Operation t = mdio_operated w t

abbrev pub resume_mdio : Wanted → Mdio → Reply → Call ℕ
resume_mdio w mdio.Value r =
    do
      end (done r)
      mdio_addressed w (cycle (address_of w))
resume_mdio w (mdio.Cycling place s) r = mdio_cycled w place (resume_cycle s r)
resume_mdio w mdio.Data r =
    do
      v ← end (raw r)
      return (v / 2 ^ 16)

abbrev pub told_mdio : Wanted → Step Action Mdio (Res ℕ) → Call ℕ
told_mdio w = told (resume_mdio w)
