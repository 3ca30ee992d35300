-- x552.rs: `Watch`
use Rattle.std.specs.Prelude.{ℕ, ◌+◌, ◌%◌, ◌^◌, Bool, true, false, eqb, Option, None, Some}
use Rattle.hardware.specs.Talk.{Call, ◌>>=◌, ◌>>◌, pick, return}
use Rattle.hardware.specs.declared.Port.{Port}
use Rattle.words.specs.Link as words
use Rattle.answers.specs.declared.Copper.{Copper}
use Rattle.answers.specs.declared.Copper.TheVariants as copperv
use Rattle.answers.specs.declared.Internal.{Internal}
use Rattle.answers.specs.declared.Internal.TheVariants.{Ixfi, Kr}
use Rattle.reference.specs.Mdio.{read_reg, an_link}
use Rattle.reference.specs.X552.{kr_autoneg, ixfi}

-- the Watch's fields beside the answer
pub record Polled : Type 0 where
  pub copper : Copper
  pub forced : Option ℕ
  pub reforced : ℕ

abbrev pub polled : Copper → Option ℕ → ℕ → Call Polled
polled c forced reforced = return (record { copper = c; forced = forced; reforced = reforced })

unfoldable pub is_forced : Option ℕ → ℕ → Bool
is_forced None status = false
is_forced (Some forced) status = eqb forced status

abbrev pub poll_forced : ℕ → ℕ → ℕ → Call Polled
poll_forced reforced status megabits = polled (copperv.Up megabits) (Some status) ((reforced + 1) % 2 ^ 32)

-- the internal link anew
abbrev pub poll_force : ℕ → Port → ℕ → ℕ → ℕ → Internal → Call Polled
poll_force pause port reforced status megabits Kr =
    do
      kr_autoneg pause port true true
      poll_forced reforced status megabits
poll_force pause port reforced status megabits Ixfi =
    do
      ixfi pause port (eqb megabits 10000)
      poll_forced reforced status megabits

abbrev pub poll_speed : ℕ → Port → Internal → Option ℕ → ℕ → ℕ → Option ℕ → Call Polled
poll_speed pause port internal forced reforced status None = polled (copperv.Invalid status) forced reforced
poll_speed pause port internal forced reforced status (Some megabits) =
    pick (is_forced forced status) (polled (copperv.Up megabits) forced reforced)
    (poll_force pause port reforced status megabits internal)

-- down forgets the forced status
abbrev pub poll_down : ℕ → Call Polled
poll_down reforced = polled copperv.Down None reforced

abbrev pub poll_up : ℕ → Port → ℕ → Internal → Option ℕ → ℕ → Call Polled
poll_up pause port phy internal forced reforced =
    do
      v ← read_reg port phy 7 0xc800
      up ← an_link port phy
      pick up (poll_speed pause port internal forced reforced (v % 8) (words.copper (v % 8))) (poll_down reforced)

-- x552.rs:580, the Watch by value
unfoldable pub poll : ℕ → Port → ℕ → Internal → Option ℕ → ℕ → Call Polled
poll pause port phy internal forced reforced =
    do
      up ← an_link port phy
      pick up (poll_up pause port phy internal forced reforced) (poll_down reforced)
