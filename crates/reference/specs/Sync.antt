-- sync.rs: the register semaphore, and the bits of SW_FW_SYNC. TOKEN is in Acquire.antt
use Rattle.std.specs.Prelude.{ℕ, Bool, true, false, not, ◌&&◌, List, [], eqb, Ok, Err}
use Rattle.std.specs.Int.Bits.{bit_and, bit_or}
use Rattle.hardware.specs.Bits.{without}
use Rattle.hardware.specs.Talk.{Talk, Call, Res, end, and_then, ◌>>=◌, ◌>>◌, attempt, times, pick, is_clear, read, write, flush, delay, return, fail}
use Rattle.hardware.specs.declared.Error.{Error}
use Rattle.hardware.specs.declared.Error.TheVariants.{Semaphore}
use Rattle.hardware.specs.declared.Family.{Family}
use Rattle.hardware.specs.declared.Family.TheVariants.{X552, X553}
use Rattle.hardware.specs.Regs.{regs}
use Rattle.hardware.specs.declared.Port.{Port}
use Rattle.hardware.specs.declared.Regs.{Regs}
use Rattle.words.specs.declared.semaphore.Bits.{Bits}
use Rattle.words.specs.Semaphore.{bits}

-- sync.rs:44
abbrev pub phy : ℕ → ℕ
phy lan = pick (eqb lan 1) 4 2

abbrev pub smbi_turn : ℕ → Call (Unit {0}) → Call (Unit {0})
smbi_turn swsm again =
    do
      v ← read swsm
      pick (is_clear v 1) (return tt) (delay 50 >> again)

abbrev pub smbi_times : ℕ → ℕ → Call (Unit {0})
smbi_times swsm n = times n (smbi_turn swsm) (fail (Semaphore 1))

-- sync.rs:52
abbrev pub smbi : ℕ → Call (Unit {0})
smbi swsm = smbi_times swsm 2000

-- sync.rs:60
abbrev pub clear : ℕ → ℕ → Call (Unit {0})
clear reg bits =
    do
      value ← read reg
      write reg (without value bits)

abbrev pub regsmp_turn : ℕ → Call (Unit {0}) → Call (Unit {0})
regsmp_turn sync again =
    do
      v ← read sync
      pick (is_clear v 0x80000000) (return tt) (delay 50 >> again)

-- SMBI is ours and given back; REGSMP is not
abbrev pub regsmp_failed : ℕ → Call (Unit {0})
regsmp_failed swsm =
    do
      clear swsm 1
      flush
      fail (Semaphore 0x80000000)

abbrev pub regsmp_times : Regs → ℕ → Call (Unit {0})
regsmp_times pair n = times n (regsmp_turn pair.sync) (regsmp_failed pair.swsm)

-- sync.rs:66
abbrev pub lock : Regs → Call (Unit {0})
lock pair =
    do
      smbi pair.swsm
      regsmp_times pair 2000

-- sync.rs:90
abbrev pub unlock : Regs → Call (Unit {0})
unlock pair =
    do
      clear pair.sync 0x80000000
      clear pair.swsm 1
      flush

abbrev pub mux_at : Family → ℕ → ℕ → Bool
mux_at X552 lan mask = eqb lan 1 && not (is_clear mask 0x1800)
mux_at X553 lan mask = false

-- sync.rs:198
unfoldable pub mux : Port → ℕ → Bool
mux port mask = mux_at port.family port.lan mask

-- sync.rs:202
abbrev pub set_mux : Bool → Call (Unit {0})
set_mux on =
    do
      esdp ← read 0x20
      write 0x20 (pick on (bit_or esdp 2) (without esdp 2))
      flush

-- the bits that keep a mask from being taken
abbrev pub busy : Bits → ℕ
busy want = bit_or (bit_or want.sw want.fw) want.hw

-- `switch`: with the mux
abbrev pub acquire_bits_taken : Bool → Call (Unit {0})
acquire_bits_taken switch = pick switch (set_mux true) (return tt)

-- with what SW_FW_SYNC gave
abbrev pub acquire_bits_got : Regs → Bits → Bool → (ℕ → Call (Unit {0})) → Res ℕ → Call (Unit {0})
acquire_bits_got pair want switch again (Err e) = unlock pair >> fail e
acquire_bits_got pair want switch again (Ok v) =
    pick (is_clear v (busy want))
    (do
      taken ← attempt (write pair.sync (bit_or v want.sw))
      unlock pair
      end taken
      acquire_bits_taken switch)
    (do
      unlock pair
      delay 5000
      again (bit_and v (busy want)))

abbrev pub acquire_bits_turn : Regs → Bits → Bool → (ℕ → Call (Unit {0})) → ℕ → Call (Unit {0})
acquire_bits_turn pair want switch again held =
    do
      lock pair
      got ← attempt (read pair.sync)
      acquire_bits_got pair want switch again got

abbrev pub acquire_bits_times : Regs → Bits → Bool → ℕ → ℕ → Call (Unit {0})
acquire_bits_times pair want switch n = times n (acquire_bits_turn pair want switch) (λ held. fail (Semaphore held))

-- sync.rs:144
unfoldable pub acquire_bits : Port → ℕ → Call (Unit {0})
acquire_bits port mask = acquire_bits_times (regs port.family) (bits mask) (mux port mask) 1000 0

-- how long to wait after a release
unfoldable pub settle : ℕ → ℕ
settle mask = pick (is_clear mask 0x406) 2000 10

abbrev pub release_bits_locked : Regs → ℕ → ℕ → Call (Unit {0})
release_bits_locked pair sw micros =
    do
      lock pair
      cleared ← attempt (clear pair.sync sw)
      unlock pair
      end cleared
      delay micros

abbrev pub release_bits_with : Regs → ℕ → ℕ → Bool → Call (Unit {0})
release_bits_with pair sw micros switch =
    pick switch (set_mux false >> release_bits_locked pair sw micros) (release_bits_locked pair sw micros)

-- sync.rs:171
unfoldable pub release_bits : Port → ℕ → Call (Unit {0})
release_bits port mask = release_bits_with (regs port.family) (bits mask).sw (settle mask) (mux port mask)

-- What a body that holds a mask ends with: a result, or a result and the host block. An error before the body, and the
-- release's result after it, are put to it
pub record Ending (X : Type 0) : Type 0 where
  pub before : Error → X
  pub after : X → Res (Unit {0}) → X

-- the body's error, then the release's
abbrev pub both : {A : Type 0} → Res A → Res (Unit {0}) → Res A
both (Err e) released = Err e
both (Ok value) (Err e) = Err e
both (Ok value) (Ok _) = Ok value

abbrev pub plain : {A : Type 0} → Ending (Res A)
plain = record { before = Err; after = both }

abbrev pub with_block : {A : Type 0} → List ℕ → Ending (Res A × List ℕ)
with_block b = record { before = λ e. (Err e, b); after = λ p released. (both p.0 released, p.1) }

-- a list of values: the body's error comes with those before it, the release's with none
abbrev pub listed_after : {A : Type 0} → Res A × List ℕ → Res (Unit {0}) → Res A × List ℕ
listed_after (Err e, values) released = (Err e, values)
listed_after (Ok value, values) (Err e) = (Err e, [])
listed_after (Ok value, values) (Ok _) = (Ok value, values)

abbrev pub with_values : {A : Type 0} → Ending (Res A × List ℕ)
with_values = record { before = λ e. (Err e, []); after = listed_after }

abbrev pub held_given : {X : Type 0} → Ending X → X → Res (Unit {0}) → Talk X
held_given ending x released = end (ending.after x released)

abbrev pub held_done : {X : Type 0} → Ending X → Call (Unit {0}) → X → Talk X
held_done ending give x = and_then give (held_given ending x)

abbrev pub held_taken : {X : Type 0} → Ending X → Call (Unit {0}) → Talk X → Res (Unit {0}) → Talk X
held_taken ending give body (Err e) = end (ending.before e)
held_taken ending give body (Ok _) = and_then body (held_done ending give)

-- sync.rs:186: take, the body, give, whatever the body ended with
abbrev pub held : {X : Type 0} → Ending X → Call (Unit {0}) → Call (Unit {0}) → Talk X → Talk X
held ending take give body = and_then take (held_taken ending give body)

-- `locked` with no TOKEN in the mask
abbrev pub locked_bits : {X : Type 0} → Ending X → Port → ℕ → Talk X → Talk X
locked_bits ending port mask body = held ending (acquire_bits port mask) (release_bits port mask) body
