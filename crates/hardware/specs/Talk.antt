-- Conversations, and hardware.rs's `read`, `write`, `flush` and delays as conversations
use Rattle.std.specs.Prelude.{ℕ, zero, suc, Bool, true, false, eqb, Result, Ok, Err}
use Rattle.std.specs.Int.Bits.{bit_and}
use Rattle.hardware.specs.declared.Action.{Action}
use Rattle.hardware.specs.declared.Action.TheVariants as action
use Rattle.hardware.specs.declared.Failure.{Failure}
use Rattle.hardware.specs.declared.Error.{Error}
use Rattle.hardware.specs.declared.Error.TheVariants.{Io, Removed}

-- what a Rust function of type `R<A>` gives back
abbrev pub Res : Type 0 → Type 0
Res A = Result A Error

-- what the host hands back: the value read, or its failure
abbrev pub Reply : Type 0
Reply = Result ℕ Failure

-- a conversation has ended with an answer, or asks for an action and goes on from the reply
pub data Talk (A : Type 0) : Type 0 where
  end : A → Talk A
  ask : Action → (Reply → Talk A) → Talk A

-- the conversation of a Rust function of type `R<A>`
abbrev pub Call : Type 0 → Type 0
Call A = Talk (Res A)

-- go on from whatever it ended with
abbrev pub and_then : {A B : Type 0} → Talk A → (A → Talk B) → Talk B
and_then (end a) k = k a
and_then (ask a c) k = ask a (λ r. and_then (c r) k)

abbrev pub or_stop : {A B : Type 0} → (A → Talk (Res B)) → Res A → Talk (Res B)
or_stop k (Ok a) = k a
or_stop k (Err e) = end (Err e)

-- the Rust's `?`
infixl 20 ◌>>=◌
abbrev pub ◌>>=◌ : {A B : Type 0} → Talk (Res A) → (A → Talk (Res B)) → Talk (Res B)
t >>= k = and_then t (or_stop k)

infixl 20 ◌>>◌
abbrev pub ◌>>◌ : {A B : Type 0} → Talk (Res A) → Talk (Res B) → Talk (Res B)
s >> t = s >>= (λ _. t)

-- a call whose error is kept for later, as in `let taken = write(..);`
abbrev pub attempt : {A : Type 0} → Talk (Res A) → Talk (Res (Res A))
attempt t = and_then t (λ r. end (Ok r))

abbrev pub return : {A : Type 0} → A → Call A
return a = end (Ok a)

abbrev pub fail : {A : Type 0} → Error → Call A
fail e = end (Err e)

-- `if`
abbrev pub pick : {A : Type 0} → Bool → A → A → A
pick true a b = a
pick false a b = b

-- `for _ in 0..n`: a turn is given what comes after it
unfoldable pub times : {X : Type 0} → ℕ → (X → X) → X → X
times zero turn after = after
times (suc n) turn after = turn (times n turn after)

-- `value & bits == 0`
abbrev pub is_clear : ℕ → ℕ → Bool
is_clear value bits = eqb (bit_and value bits) 0

abbrev pub raw : Reply → Res ℕ
raw (Err code) = Err (Io code.0)
raw (Ok value) = Ok value

abbrev pub checked : Reply → Res ℕ
checked (Err code) = Err (Io code.0)
checked (Ok value) = pick (eqb value 0xffffffff) (Err Removed) (Ok value)

abbrev pub done : Reply → Res (Unit {0})
done (Err code) = Err (Io code.0)
done (Ok value) = Ok tt

-- hardware.rs:113
abbrev pub read : ℕ → Call ℕ
read reg = ask (action.Read reg) (λ r. end (checked r))

-- `io.read` by itself, whose value is data
abbrev pub read_raw : ℕ → Call ℕ
read_raw reg = ask (action.Read reg) (λ r. end (raw r))

-- hardware.rs:121
abbrev pub write : ℕ → ℕ → Call (Unit {0})
write reg value = ask (action.Write reg value) (λ r. end (done r))

-- hardware.rs:126: a read of STATUS, whatever it gives
abbrev pub flush : Call (Unit {0})
flush = ask (action.Read 0x8) (λ r. end (done r))

-- `io.delay_us`: after a wait any reply is ignored
abbrev pub delay : ℕ → Call (Unit {0})
delay micros = ask (action.Wait micros) (λ _. return tt)
