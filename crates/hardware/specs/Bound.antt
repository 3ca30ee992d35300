-- That a talk ends, and how long it is at the most
use Rattle.std.specs.Prelude.{ℕ, zero, suc, ◌+◌, ◌≤◌, ◌≡◌}
use Rattle.hardware.specs.Talk.{Talk, ask, end, Reply}
use Rattle.hardware.specs.declared.Action.{Action}
use Rattle.hardware.specs.declared.Action.TheVariants.{Read, Write, Wait}

-- the microseconds that an action waits
abbrev pub waited : Action → ℕ
waited (Read reg) = 0
waited (Write reg v) = 0
waited (Wait micros) = micros

-- one reply further; an ended talk stays
abbrev pub further : {A : Type 0} → Talk A → Reply → Talk A
further (end r) x = end r
further (ask a k) x = k x

-- n replies further, out of replies without end
abbrev pub said : {A : Type 0} → ℕ → Talk A → (ℕ → Reply) → Talk A
said zero t f = t
said (suc n) t f = said n (further t (f 0)) (λ i. f (suc i))

-- so many replies on, it stands at an answer
pub record Ends {A : Type 0} (t : Talk A) (f : ℕ → Reply) : Type 0 where
  pub steps : ℕ
  pub answer : A
  pub there : said steps t f ≡ end answer

-- at most n actions and m microseconds of waits, whatever is replied
pub data Within {A : Type 0} : Talk A → ℕ → ℕ → Type 0 where
  at_end : {a : A} {n m : ℕ} → Within (end a) n m
  at_ask : {a : Action} {k : Reply → Talk A} {n m n' m' : ℕ} → suc n ≤ n' → waited a + m ≤ m' → ((r : Reply) → Within (k r) n m)
      → Within (ask a k) n' m'
