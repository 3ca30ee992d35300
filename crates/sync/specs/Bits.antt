-- What a suspended set_mux, acquire_bits or release_bits still says
use Rattle.hardware.specs.declared.Action.{Action}
use Rattle.hardware.specs.declared.Step.{Step}
use Rattle.hardware.specs.Told.{told}
use Rattle.hardware.specs.Talk.{Call, Res, end, ◌>>=◌, ◌>>◌, attempt, read, write, delay, flush, pick, return, checked, done, Reply}
use Rattle.std.specs.Prelude.{ℕ, Bool, true, false}
use Rattle.std.specs.Int.Bits.{bit_or}
use Rattle.hardware.specs.Bits.{without}
use Rattle.hardware.specs.declared.Regs.{Regs}
use Rattle.reference.specs.Sync.{acquire_bits_times, acquire_bits_got, acquire_bits_taken, release_bits_locked}
use Rattle.reference.specs.Sync as sync
use Rattle.sync.specs.Lock.{resume_clear, resume_lock, resume_unlock}
use Rattle.sync.specs.declared.set_mux.SetMux.{SetMux}
use Rattle.sync.specs.declared.set_mux.SetMux.TheVariants as setmux
use Rattle.sync.specs.declared.acquire_bits.AcquireBits.{AcquireBits}
use Rattle.sync.specs.declared.acquire_bits.AcquireBits.TheVariants as acquire
use Rattle.sync.specs.declared.acquire_bits.Taking.{Taking}
use Rattle.sync.specs.declared.release_bits.Giving.{Giving}
use Rattle.sync.specs.declared.release_bits.ReleaseBits.{ReleaseBits}
use Rattle.sync.specs.declared.release_bits.ReleaseBits.TheVariants as release

abbrev pub mux_read : Bool → Res ℕ → Call (Unit {0})
mux_read on v = end v >>= (λ esdp. write 0x20 (pick on (bit_or esdp 2) (without esdp 2)) >> flush)

abbrev pub resume_mux : Bool → SetMux → Reply → Call (Unit {0})
resume_mux on setmux.Reading r = mux_read on (checked r)
resume_mux on setmux.Writing r = end (done r) >> flush
resume_mux on setmux.Flushing r = end (done r)

abbrev pub told_mux : Bool → Step Action SetMux (Res (Unit {0})) → Call (Unit {0})
told_mux on = told (resume_mux on)

abbrev pub acquire_read : Taking → ℕ → Res ℕ → Call (Unit {0})
acquire_read taking n = acquire_bits_got taking.regs taking.want taking.mux (acquire_bits_times taking.regs taking.want taking.mux n)

abbrev pub acquire_after_lock : Taking → ℕ → Call (Unit {0}) → Call (Unit {0})
acquire_after_lock taking n t =
    do
      t
      got ← attempt (read taking.regs.sync)
      acquire_read taking n got

abbrev pub acquire_ended : Bool → Res (Unit {0}) → Call (Unit {0})
acquire_ended mux result = end result >> acquire_bits_taken mux

abbrev pub acquire_ending : Bool → Res (Unit {0}) → Call (Unit {0}) → Call (Unit {0})
acquire_ending mux result t = t >> acquire_ended mux result

abbrev pub acquire_held : Taking → ℕ → ℕ → Call (Unit {0}) → Call (Unit {0})
acquire_held taking n held t =
    do
      t
      delay 5000
      acquire_bits_times taking.regs taking.want taking.mux n held

abbrev pub resume_acquire : Taking → AcquireBits → Reply → Call (Unit {0})
resume_acquire taking (acquire.Locking n s) r = acquire_after_lock taking n (resume_lock taking.regs s r)
resume_acquire taking (acquire.Reading n) r = acquire_read taking n (checked r)
resume_acquire taking acquire.Writing r = acquire_ending taking.mux (done r) (sync.unlock taking.regs)
resume_acquire taking (acquire.Ending result s) r = acquire_ending taking.mux result (resume_unlock taking.regs s r)
resume_acquire taking (acquire.Held n held s) r = acquire_held taking n held (resume_unlock taking.regs s r)
resume_acquire taking (acquire.Waiting n held) r = acquire_bits_times taking.regs taking.want taking.mux n held
resume_acquire taking (acquire.Switching s) r = resume_mux true s r

abbrev pub told_acquire : Taking → Step Action AcquireBits (Res (Unit {0})) → Call (Unit {0})
told_acquire taking = told (resume_acquire taking)

abbrev pub release_settle : ℕ → Res (Unit {0}) → Call (Unit {0})
release_settle micros cleared = end cleared >> delay micros

abbrev pub release_after_unlock : ℕ → Res (Unit {0}) → Call (Unit {0}) → Call (Unit {0})
release_after_unlock micros cleared t = t >> release_settle micros cleared

abbrev pub release_after_clear : Regs → ℕ → Call (Unit {0}) → Call (Unit {0})
release_after_clear regs micros t =
    do
      cleared ← attempt t
      release_after_unlock micros cleared (sync.unlock regs)

abbrev pub release_after_lock : Giving → Call (Unit {0}) → Call (Unit {0})
release_after_lock giving t =
    do
      t
      release_after_clear giving.regs giving.micros (sync.clear giving.regs.sync giving.sw)

abbrev pub release_after_mux : Giving → Call (Unit {0}) → Call (Unit {0})
release_after_mux giving t = t >> release_bits_locked giving.regs giving.sw giving.micros

abbrev pub resume_release : Giving → ReleaseBits → Reply → Call (Unit {0})
resume_release giving (release.Switching s) r = release_after_mux giving (resume_mux false s r)
resume_release giving (release.Locking s) r = release_after_lock giving (resume_lock giving.regs s r)
resume_release giving (release.Clearing s) r = release_after_clear giving.regs giving.micros (resume_clear giving.regs.sync giving.sw s r)
resume_release giving (release.Unlocking cleared s) r = release_after_unlock giving.micros cleared (resume_unlock giving.regs s r)
resume_release giving release.Waiting r = return tt

abbrev pub told_release : Giving → Step Action ReleaseBits (Res (Unit {0})) → Call (Unit {0})
told_release giving = told (resume_release giving)
