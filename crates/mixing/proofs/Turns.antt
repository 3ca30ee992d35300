-- Accesses that take turns, computed: what they touch and what they answer, each with turns enough, also for one that does more.
-- Each fault of must-fail/ makes one of these facts false
use Rattle.std.specs.Prelude.{Ok}
use Rattle.hardware.specs.Talk.{end, times}
use Prim.Native.Nat.{ℕ}
use mathlib.Core.Path.{◌≡◌, refl}
use mathlib.Core.List.{[], ◌∷◌, ◌++◌}
use Rattle.hardware.specs.Bits.{bit}
use Rattle.words.specs.Semaphore.{software, firmware, flash, bits}
use Rattle.answers.specs.declared.Value.TheVariants.{Word}
use Rattle.reference.specs.Acquire.{acquire, release, release_rest}
use Rattle.reference.specs.Sync.{mux, acquire_bits, release_bits}
use Rattle.reference.specs.X552.{iosf_idle, kr_read}
use Rattle.mixing.specs.Conversations.{Real, run_real}
use Rattle.mixing.specs.Model.{lan0, lan1, free}
use Rattle.mixing.specs.Events.{got}
use Rattle.mixing.specs.Turns.{turns, after}

record Right (s : Real) (regs : ℕ → ℕ) : Type 0 where
  pub touches : s.touches ≡ got 6 (regs 6) ∷ got 5 (regs 5) ∷ []
  pub first : (s.ports lan0).conv.talk ≡ end (Ok (Word (regs 5)), [])
  pub second : (s.ports lan1).conv.talk ≡ end (Ok (Word (regs 6)), [])

module _ (regs : ℕ → ℕ) where
  one_after_the_other : Right (after (turns 30 lan0 ++ turns 30 lan1) (free 0x20 7 regs)) regs
  unfolding run_real bit times kr_read acquire acquire_bits release release_rest release_bits iosf_idle mux bits software firmware flash
  one_after_the_other = record { touches = refl; first = refl; second = refl }

  -- lan 1 tries twice in the midst of lan 0's access, where lan 0 has written CTRL
  amid : Right (after (turns 11 lan0 ++ turns 18 lan1 ++ turns 30 lan0 ++ turns 30 lan1) (free 0x20 7 regs)) regs
  unfolding run_real bit times kr_read acquire acquire_bits release release_rest release_bits iosf_idle mux bits software firmware flash
  amid = record { touches = refl; first = refl; second = refl }

  -- lan 1 before lan 0 has given back the register semaphore, and again when it has
  early : Right (after (turns 3 lan0 ++ turns 2 lan1 ++ turns 5 lan0 ++ turns 9 lan1 ++ turns 30 lan0 ++ turns 30 lan1) (free 0x20 7 regs)) regs
  unfolding run_real bit times kr_read acquire acquire_bits release release_rest release_bits iosf_idle mux bits software firmware flash
  early = record { touches = refl; first = refl; second = refl }

  -- lan 1 tries as soon as lan 0 has given it back, and both go on by turns
  close : Right (after (turns 8 lan0 ++ turns 8 lan1 ++ turns 3 lan0 ++ turns 3 lan1 ++ turns 2 lan0 ++ turns 7 lan1 ++ turns 30 lan0 ++ turns 30 lan1) (free 0x20 7 regs)) regs
  unfolding run_real bit times kr_read acquire acquire_bits release release_rest release_bits iosf_idle mux bits software firmware flash
  close = record { touches = refl; first = refl; second = refl }
