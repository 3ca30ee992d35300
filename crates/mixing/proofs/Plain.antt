-- acquire_bits and release_bits touch no KR access register
use Rattle.std.specs.Prelude.{Err, Ok}
use Rattle.hardware.specs.Talk.{Talk, Call, Res, is_clear, fail, flush}
use Prim.Native.Nat.{ℕ}
use mathlib.Core.Path.{sym, subst}
use mathlib.Core.Bool.{Bool, true, false}
use lib.Bits.{bit_and}
use Rattle.hardware.specs.Regs.{regs}
use Rattle.hardware.specs.declared.Error.TheVariants.{Semaphore}
use Rattle.hardware.specs.declared.Family.{Family}
use Rattle.hardware.specs.declared.Port.{Port}
use Rattle.words.specs.declared.semaphore.Bits.{Bits}
use Rattle.words.specs.Semaphore.{bits}
use Rattle.reference.specs.Sync.{
  Ending,
  held,
  held_taken,
  smbi_turn,
  smbi,
  clear,
  regsmp_turn,
  regsmp_failed,
  lock,
  unlock,
  set_mux,
  mux,
  busy,
  acquire_bits_got,
  acquire_bits_turn,
  acquire_bits,
  settle,
  release_bits_locked,
  release_bits,
}
use Rattle.mixing.specs.Only.{Only, only_end, only_ask}
use Rattle.mixing.specs.Model.{kind, On}
use Rattle.mixing.specs.System.{NotIosf, Made, done, other}
use Rattle.hardware.proofs.Laws.{by_turns}
use Rattle.mixing.proofs.Only.{only_then, only_stop, only_bind, only_attempt, only_pick, only_read, only_write, only_wait, quiet_only, quiet_flush}
use Rattle.mixing.proofs.Lock.{kind_swsm, kind_sync}
use Rattle.mixing.proofs.Hold.{quiet_mux}

abbrev pub Plain : {A : Type 0} → Family → Talk A → Type 0
Plain f t = Only (On NotIosf f) t

pub made_plain : {A : Type 0} {f : Family} {t : Talk A} → Plain f t → Made f t
made_plain only_end = done _
made_plain (only_ask o p) = other o (λ r. made_plain (p r))

-- take, body, give
pub plain_held : {X : Type 0} (f : Family) (ending : Ending X) {take give : Call (Unit {0})} {body : Talk X}
    → Plain f take → Plain f give → Plain f body → Plain f (held ending take give body)
plain_held {X} f ending {give = give} {body = body} t g b = only_then t given
  where
    given : (r : Res (Unit {0})) → Plain f (held_taken ending give body r)
    given (Err e) = only_end
    given (Ok _) = only_then b (λ x. only_then g (λ r. only_end))

module _ (f : Family) where
  swsm_out : NotIosf (kind f (regs f).swsm)
  swsm_out = subst NotIosf (sym (kind_swsm f)) tt

  sync_out : NotIosf (kind f (regs f).sync)
  sync_out = subst NotIosf (sym (kind_sync f)) tt

  plain_flush : Plain f flush
  plain_flush = quiet_only NotIosf tt f (quiet_flush f)

  plain_clear : {r : ℕ} (b : ℕ) → NotIosf (kind f r) → Plain f (clear r b)
  plain_clear b h = only_bind (only_read h) (λ v. only_write h)

  plain_smbi : Plain f (smbi (regs f).swsm)
  plain_smbi =
      by_turns (Plain f) (smbi_turn (regs f).swsm) (fail (Semaphore 1))
      (λ again g. only_bind (only_read swsm_out) (λ v. only_pick (is_clear v 1) only_end (only_bind (only_wait tt) (λ _. g)))) only_end 2000

  plain_lock : Plain f (lock (regs f))
  plain_lock =
      only_bind plain_smbi
      (λ _. by_turns (Plain f) (regsmp_turn (regs f).sync) (regsmp_failed (regs f).swsm)
      (λ again g. only_bind (only_read sync_out) (λ v. only_pick (is_clear v 0x80000000) only_end (only_bind (only_wait tt) (λ _. g))))
      (only_bind (plain_clear 1 swsm_out) (λ _. only_bind plain_flush (λ _. only_end))) 2000)

  plain_unlock : Plain f (unlock (regs f))
  plain_unlock = only_bind (plain_clear 0x80000000 sync_out) (λ _. only_bind (plain_clear 1 swsm_out) (λ _. plain_flush))

  plain_mux : (on : Bool) → Plain f (set_mux on)
  plain_mux on = quiet_only NotIosf tt f (quiet_mux f on)

  plain_got : (want : Bits) (switch : Bool) (again : ℕ → Call (Unit {0})) → ((held : ℕ) → Plain f (again held)) → (r : Res ℕ)
      → Plain f (acquire_bits_got (regs f) want switch again r)
  plain_got want switch again g (Err e) = only_bind plain_unlock (λ _. only_end)
  plain_got want switch again g (Ok v) =
      only_pick (is_clear v (busy want))
      (only_attempt (only_write sync_out)
      (λ taken. only_bind plain_unlock (λ _. only_stop {A = Unit {0}} (λ _. only_pick switch (plain_mux true) (only_end {a = Ok tt})) taken)))
      (only_bind plain_unlock (λ _. only_bind (only_wait {n = 5000} tt) (λ _. g (bit_and v (busy want)))))

pub plain_acquire : (port : Port) (mask : ℕ) → Plain port.family (acquire_bits port mask)
unfolding acquire_bits
plain_acquire port mask =
    let f = port.family in
    by_turns (λ g. (held : ℕ) → Plain f (g held)) (acquire_bits_turn (regs f) (bits mask) (mux port mask)) (λ held. fail (Semaphore held))
    (λ again g held. only_bind (plain_lock f)
    (λ _. only_attempt (only_read (sync_out f)) (plain_got f (bits mask) (mux port mask) again g)))
    (λ held. only_end) 1000 0

pub plain_release : (port : Port) (mask : ℕ) → Plain port.family (release_bits port mask)
unfolding release_bits
plain_release port mask =
    let f = port.family in
    let locked : Plain f (release_bits_locked (regs f) (bits mask).sw (settle mask)) =
    only_bind (plain_lock f)
    (λ _. only_attempt (plain_clear f (bits mask).sw (sync_out f))
    (λ cleared. only_bind (plain_unlock f) (λ _. only_stop (λ _. only_wait tt) cleared))) in
    only_pick (mux port mask) (only_bind (plain_mux f false) (λ _. locked)) locked
