-- What a poll inside a window has in common with one outside all, and what it leaves
use Rattle.hardware.specs.Talk.{Talk, Call, Res, Reply, ask, end, and_then}
use Rattle.hardware.specs.Refusal.{refusal}
use Rattle.std.specs.Prelude.{◌≡◌, ◌⊎◌, ℕ, ◌-◌, ◌*◌, Bool, true, List, [], ◌++◌, length, drop, Option, Ok, Err}
use Rattle.hardware.specs.declared.Action.{Action}
use Rattle.hardware.specs.declared.Port.{Port}
use Rattle.answers.specs.declared.Copper.TheVariants as copperv
use Rattle.answers.specs.declared.Value.TheVariants as valuev
use Rattle.arguments.specs.declared.Watch.{Watch}
use Rattle.drive.specs.Act.{used_by}
use Rattle.reference.specs.Out.{Out, answer, poll_value}
use Rattle.reference.specs.Watch.{poll, poll_force}
use Rattle.reference.specs.Window.{Due, nothing, force, due}
use Rattle.operations.specs.Request.{at_phy}
use Rattle.calls.specs.Conversation.{Conv, opening, started}
use Rattle.calls.specs.Run.{Run, run_talk}

-- the poll as it was before there were windows: the Rust's
abbrev pub poll_before : Port → Watch → Conv
poll_before port w =
    opening port (started (answer poll_value (poll port.pause port w.phy w.internal w.forced w.reforced)) (refusal (at_phy port w.phy 0)))

-- ---- inside a window

-- a poll up to where it would force the internal link anew
abbrev pub first_part : Port → Watch → Call Due
first_part port w = due port w.phy w.forced w.reforced

-- what one inside a window ends with there
abbrev pub held_out : Watch → Res Due → Out
held_out w (Err e) = (Err e, [])
held_out w (Ok (nothing p)) = (Ok (poll_value p), [])
held_out w (Ok (force status megabits)) = (Ok (valuev.Poll (copperv.Held megabits) w.forced w.reforced), [])

-- the actions of the re-force that is due, over what is left of the script, with the room that is left; none where none is due
abbrev pub reforced_in : Port → Watch → Talk (Res Due) → List ℕ → ℕ → List Action
reforced_in port w (end (Ok (force status megabits))) rs room = (run_talk (poll_force port.pause port w.reforced status megabits w.internal) rs room).done
reforced_in port w (end (Ok (nothing p))) rs room = []
reforced_in port w (end (Err e)) rs room = []
reforced_in port w (ask a k) rs room = []

-- two runs of one script beside that of the first part: a poll inside a window does the actions of that part and no others, and ends
-- behind it; the poll without windows does those, and behind them the re-force's
pub record UpToForce (port : Port) (w : Watch) (first : Run (Res Due)) (inside whole : Run Out) (rs : List ℕ) (room : ℕ) : Type 0 where
  pub same : inside.done ≡ first.done
  pub ends : inside.talk ≡ and_then first.talk (λ r. end (held_out w r))
  pub behind : whole.done ≡ inside.done ++ reforced_in port w first.talk (drop (used_by first.done) rs) (room - 3 * length first.done)

-- ---- what a poll leaves

-- whatever is replied, it ends with something that is P
pub data AtEnd {A : Type 0} (P : A → Type 0) : Talk A → Type 0 where
  at_end : {a : A} → P a → AtEnd P (end a)
  at_ask : {a : Action} {k : Reply → Talk A} → ((r : Reply) → AtEnd P (k r)) → AtEnd P (ask a k)

-- held is answered inside a window alone, with 10000 or 1000 megabits, and with the Watch as it was
pub record IsHeld (inside : Bool) (w : Watch) (megabits : ℕ) (forced : Option ℕ) (reforced : ℕ) : Type 0 where
  pub in_window : inside ≡ true
  pub speed : (megabits ≡ 10000) ⊎ (megabits ≡ 1000)
  pub same_forced : forced ≡ w.forced
  pub same_reforced : reforced ≡ w.reforced

abbrev pub HeldOnly : Bool → Watch → Out → Type 0
HeldOnly inside w out = (megabits : ℕ) (forced : Option ℕ) (reforced : ℕ) → out.0 ≡ Ok (valuev.Poll (copperv.Held megabits) forced reforced)
    → IsHeld inside w megabits forced reforced
