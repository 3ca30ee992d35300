-- Inside a window a poll touches no KR register
use Rattle.std.specs.Prelude.{Err, Ok, Option}
use Rattle.hardware.specs.Talk.{Res}
use Prim.Native.Nat.{ℕ}
use mathlib.Core.Bool.{true}
use Rattle.hardware.specs.declared.Port.{Port}
use Rattle.answers.specs.declared.Internal.{Internal}
use Rattle.reference.specs.Mdio.{mask, read_reg, an_link}
use Rattle.reference.specs.Out.{answer, poll_value}
use Rattle.reference.specs.Sync as sync
use Rattle.reference.specs.Window.{Due, nothing, force, due, settle, window_poll}
use Rattle.operations.specs.Operations.{operation}
use Rattle.operations.specs.Request.{refused}
use Rattle.operations.specs.declared.Operation.TheVariants.{Poll}
use Rattle.calls.specs.Conversation.{started}
use Rattle.mixing.specs.Only.{Only, only_end}
use Rattle.mixing.specs.System.{NotIosf, Outside}
use Rattle.mixing.specs.Windowed.{NoKrInside}
use Rattle.mixing.proofs.Only.{only_then, only_bind, only_pick, quiet_only}
use Rattle.mixing.proofs.Plain.{Plain, plain_held}
use Rattle.mixing.proofs.Mdio.{q_read_body}
use Rattle.mixing.proofs.Token.{plain_take, plain_give}

module _ (port : Port) where
  plain_read_reg : (phy dev reg : ℕ) → Plain port.family (read_reg port phy dev reg)
  unfolding read_reg
  plain_read_reg phy dev reg =
      plain_held port.family sync.plain (plain_take port (mask port)) (plain_give port (mask port)) (quiet_only NotIosf tt port.family (q_read_body port.family _))

  plain_an_link : (phy : ℕ) → Plain port.family (an_link port phy)
  unfolding an_link
  plain_an_link phy = only_bind (plain_read_reg phy 7 1) (λ _. only_bind (plain_read_reg phy 7 1) (λ v. only_end))

  plain_due : (phy : ℕ) (forced : Option ℕ) (reforced : ℕ) → Plain port.family (due port phy forced reforced)
  unfolding due
  plain_due phy forced reforced =
      only_bind (plain_an_link phy)
      (λ up. only_pick up (only_bind (plain_read_reg phy 7 0xc800) (λ v. only_bind (plain_an_link phy) (λ up. only_end))) only_end)

  plain_settle : (pause : ℕ) (internal : Internal) (forced : Option ℕ) (reforced : ℕ) (d : Due)
      → Plain port.family (settle true pause port internal forced reforced d)
  plain_settle pause internal forced reforced (nothing p) = only_end
  plain_settle pause internal forced reforced (force status megabits) = only_end

  plain_poll : (pause phy : ℕ) (internal : Internal) (forced : Option ℕ) (reforced : ℕ)
      → Plain port.family (answer poll_value (window_poll true pause port phy internal forced reforced))
  unfolding window_poll
  plain_poll pause phy internal forced reforced =
      only_then (only_bind (only_bind (plain_due phy forced reforced) (plain_settle pause internal forced reforced)) (λ p. only_end)) (λ r. only_end)

pub no_kr_inside : NoKrInside
no_kr_inside port w minute ws here = go (refused port (Poll w minute) ws)
  where
    go : (r : Res (Unit {0})) → Only (Outside port.family) (started (operation port (Poll w minute) ws) r)
    go (Err e) = only_end
    go (Ok _) = rw here (plain_poll port port.pause w.phy w.internal w.forced w.reforced)
