-- An access done whole and alone: both semaphore words clear, never busy, no failure
use Rattle.hardware.specs.Talk.{Talk, end, ask, Res}
use Rattle.std.specs.Prelude.{ℕ, suc, ◌≡◌, false, Ok}
use Rattle.hardware.specs.declared.Family.{Family}
use Rattle.mixing.specs.Mixing.{feed}
use Rattle.mixing.specs.Model.{Side, World, Chip, do_action}
use Rattle.mixing.specs.System.{Access, reads, writes, Given, access_talk}

-- its answer, the chip then, and what other registers still have to say
pub record Whole (A : Type 0) : Type 0 where
  pub answer : A
  pub chip : Chip
  pub left : ℕ → ℕ

abbrev pub calm : ℕ → World
calm v = record { busy = false; reply = Ok v; kind = 0; value = 0 }

-- a conversation from its start to its end; any other register answers what comes next in `will`
unfoldable pub whole : {A : Type 0} → Family → Side → (ℕ → ℕ) → Chip → Talk A → Whole A
whole f p will c (end a) = record { answer = a; chip = c; left = will }
whole f p will c (ask a k) =
    let d = do_action f p (calm (will 0)) c a in
    whole f p (λ i. will (suc i)) d.chip (k d.reply)

-- what the table answers
abbrev pub Answers : (x : Access) → (ℕ → ℕ) → Res (Given x) → Type 0
Answers (reads who a) t r = r ≡ Ok (t a)
Answers (writes who a w) t r = r ≡ Ok tt

-- it does to the KR registers just the table's step, and gives the table's answer
pub record Alone (f : Family) (p : Side) (x : Access) (will : ℕ → ℕ) (c : Chip) : Type 0 where
  pub registers : (b : ℕ) → (whole f p will c (access_talk f x)).chip.kr b ≡ feed x c.kr b
  pub answer : Answers x c.kr (whole f p will c (access_talk f x)).answer

abbrev pub WholeAndAlone : Type 0
WholeAndAlone = (f : Family) (p : Side) (x : Access) (will : ℕ → ℕ) (c : Chip) → c.swsm.value ≡ 0 → c.sync.value ≡ 0 → Alone f p x will c
