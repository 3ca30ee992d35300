-- What comes after a setup, inside its choices
use Rattle.hardware.specs.Talk.{Call, ◌>>=◌, ◌>>◌, pick, is_clear, read, return}
use Prim.Native.Nat.{ℕ}
use mathlib.Core.Bool.{Bool, true, false}
use Rattle.std.specs.Prelude.{Option, Some, None}
use mathlib.Core.Path.{◌≡◌, refl, ap, sym, ◌∙◌, fun_ext}
use Rattle.hardware.specs.declared.Family.TheVariants.{X553}
use Rattle.hardware.specs.declared.Managed.{Managed}
use Rattle.hardware.specs.declared.Port.{Port}
use Rattle.answers.specs.declared.Setup553.{Setup553}
use Rattle.answers.specs.declared.Setup553.TheVariants as setup553
use Rattle.answers.specs.declared.Value.{Value}
use Rattle.answers.specs.declared.Value.TheVariants as value
use Rattle.reference.specs.X552.{kr_autoneg, mdio_clock, vetoed}
use Rattle.reference.specs.X553.{firmware_phy, slow_device}
use Rattle.reference.specs.Bringup.{bringup}
use Rattle.reference.proofs.Laws.{pick_then, bind_assoc}
use Rattle.phy.specs.Clock.{speed_of}
use Rattle.bringup.specs.Bringup.{devices_of}

pub vetoed_then : {A B : Type 0} (veto : Bool) (s f : Call A) (k : A → Call B) → (vetoed veto s f >>= k) ≡ vetoed veto (s >>= k) (f >>= k)
vetoed_then true s f k = refl
vetoed_then false s f k =
    bind_assoc (read 0x42d0) (λ mmngc. pick (is_clear mmngc 1) f s) k
    ∙ ap (λ (g : ℕ → Call _). read 0x42d0 >>= g) (fun_ext (λ mmngc. pick_then (is_clear mmngc 1) f s k))

-- x553.rs's setup of a backplane port, with the call's answer in its choices
module _ (port : Port) (veto kr : Bool) where
  abbrev pub tuned : Call ℕ
  tuned = kr_autoneg port.pause port kr true

  abbrev pub free : Call Setup553
  free = vetoed veto (return setup553.ManageabilityVeto) (tuned >>= λ lc1. return (setup553.Kr lc1))

  abbrev pub answered : Call Value
  answered = vetoed veto (return (value.X553 setup553.ManageabilityVeto)) (tuned >>= λ lc1. return (value.X553 (setup553.Kr lc1)))

  abbrev pub strapped : ℕ → Call Setup553
  strapped sel = pick (is_clear sel 0x100000) free (return (setup553.Kr2500 sel))

  free_then : (free >>= λ s. return (value.X553 s)) ≡ answered
  free_then =
      vetoed_then veto (return setup553.ManageabilityVeto) (tuned >>= λ lc1. return (setup553.Kr lc1)) (λ s. return (value.X553 s))
      ∙ ap (vetoed veto (return (value.X553 setup553.ManageabilityVeto))) (bind_assoc tuned (λ lc1. return (setup553.Kr lc1)) (λ s. return (value.X553 s)))

  strapped_then : (sel : ℕ)
      → (strapped sel >>= λ s. return (value.X553 s)) ≡ pick (is_clear sel 0x100000) answered (return (value.X553 (setup553.Kr2500 sel)))
  strapped_then sel =
      pick_then (is_clear sel 0x100000) free (return (setup553.Kr2500 sel)) (λ s. return (value.X553 s))
      ∙ ap (λ (t : Call Value). pick (is_clear sel 0x100000) t (return (value.X553 (setup553.Kr2500 sel)))) free_then

  pub backplane : (read 0x11178 >>= λ sel. pick (is_clear sel 0x100000) answered (return (value.X553 (setup553.Kr2500 sel))))
      ≡ ((read 0x11178 >>= strapped) >>= λ s. return (value.X553 s))
  backplane =
      ap (λ (g : ℕ → Call Value). read 0x11178 >>= g) (sym (fun_ext strapped_then))
      ∙ sym (bind_assoc (read 0x11178) strapped (λ s. return (value.X553 s)))

-- `set_mdio_speed`, by what the clock is set to, and what comes after it
abbrev pub clock_first : Option Bool → Call Value → Call Value
clock_first None after = after
clock_first (Some fast) after = mdio_clock fast >> after

module _ (after : Call Value) where
  speeds : (slow fast : Bool)
      → clock_first (pick slow (Some false) (pick fast (Some true) None)) after ≡ pick slow (mdio_clock false >> after) (pick fast (mdio_clock true >> after) after)
  speeds true fast = refl
  speeds false true = refl
  speeds false false = refl

module _ (managed : Managed) (x553 : managed.port.family ≡ X553) where
  pub bringup_clocked : bringup managed.port.pause managed.port managed.veto ≡ clock_first (speed_of managed.port) (devices_of managed managed.port.family)
  unfolding bringup
  bringup_clocked = simp x553 (sym (speeds (devices_of managed X553) (slow_device managed.port.device) (firmware_phy managed.port.device)))
