-- A poll of document 02, which may lie in a window: the Rust's `poll`, but that inside a window it ends where it would force the
-- internal link anew. That outside it is the Rust's: proofs/Window.antt
use Rattle.std.specs.Prelude.{ℕ, ◌%◌, Bool, Option, None, Some}
use Rattle.hardware.specs.Talk.{Call, ◌>>=◌, pick, return}
use Rattle.hardware.specs.declared.Port.{Port}
use Rattle.words.specs.Link as words
use Rattle.answers.specs.declared.Copper.{Copper}
use Rattle.answers.specs.declared.Copper.TheVariants as copperv
use Rattle.answers.specs.declared.Internal.{Internal}
use Rattle.reference.specs.Mdio.{read_reg, an_link}
use Rattle.reference.specs.Watch.{Polled, polled, is_forced, poll_force}

-- what a poll has come to before it forces anything: its end, or that a re-force is due, for a status, to so many megabits
pub data Due : Type 0 where
  nothing : Polled → Due
  force : (status megabits : ℕ) → Due

abbrev pub seen : Copper → Option ℕ → ℕ → Due
seen c forced reforced = nothing (record { copper = c; forced = forced; reforced = reforced })

abbrev pub due_speed : Option ℕ → ℕ → ℕ → Option ℕ → Due
due_speed forced reforced status None = seen (copperv.Invalid status) forced reforced
due_speed forced reforced status (Some megabits) =
    pick (is_forced forced status) (seen (copperv.Up megabits) forced reforced) (force status megabits)

-- down forgets the forced status
abbrev pub due_down : ℕ → Due
due_down reforced = seen copperv.Down None reforced

abbrev pub due_up : Port → ℕ → Option ℕ → ℕ → Call Due
due_up port phy forced reforced =
    do
      v ← read_reg port phy 7 0xc800
      up ← an_link port phy
      return (pick up (due_speed forced reforced (v % 8) (words.copper (v % 8))) (due_down reforced))

-- a poll up to where it would force: both link reads, and between them the status
unfoldable pub due : Port → ℕ → Option ℕ → ℕ → Call Due
due port phy forced reforced =
    do
      up ← an_link port phy
      pick up (due_up port phy forced reforced) (return (due_down reforced))

-- what comes then. Inside a window a re-force that is due is held: the answer has its megabits, and the Watch is as it was
abbrev pub settle : Bool → ℕ → Port → Internal → Option ℕ → ℕ → Due → Call Polled
settle inside pause port internal forced reforced (nothing p) = return p
settle inside pause port internal forced reforced (force status megabits) =
    pick inside (polled (copperv.Held megabits) forced reforced) (poll_force pause port reforced status megabits internal)

unfoldable pub window_poll : Bool → ℕ → Port → ℕ → Internal → Option ℕ → ℕ → Call Polled
window_poll inside pause port phy internal forced reforced = due port phy forced reforced >>= settle inside pause port internal forced reforced
