-- What a suspended machine of lock.rt still says
use Rattle.hardware.specs.declared.Action.{Action}
use Rattle.hardware.specs.declared.Step.{Step}
use Rattle.hardware.specs.Told.{told}
use Rattle.hardware.specs.Talk.{Call, Res, end, ◌>>=◌, ◌>>◌, write, delay, flush, pick, return, fail, is_clear, checked, done, Reply}
use Rattle.std.specs.Prelude.{ℕ}
use Rattle.hardware.specs.Bits.{without}
use Rattle.hardware.specs.declared.Error.TheVariants.{Semaphore}
use Rattle.hardware.specs.declared.Regs.{Regs}
use Rattle.reference.specs.Sync.{smbi_times, regsmp_times}
use Rattle.reference.specs.Sync as sync
use Rattle.sync.specs.declared.lock.Lock.{Lock}
use Rattle.sync.specs.declared.lock.Lock.TheVariants as lock
use Rattle.sync.specs.declared.lock.Unlock.{Unlock}
use Rattle.sync.specs.declared.lock.Unlock.TheVariants as unlock
use Rattle.sync.specs.declared.lock.Smbi.{Smbi}
use Rattle.sync.specs.declared.lock.Smbi.TheVariants as smbi
use Rattle.sync.specs.declared.lock.Clear.{Clear}
use Rattle.sync.specs.declared.lock.Clear.TheVariants as clear

abbrev pub resume_smbi : ℕ → Smbi → Reply → Call (Unit {0})
resume_smbi swsm (smbi.Reading n) r = end (checked r) >>= (λ v. pick (is_clear v 1) (return tt) (delay 50 >> smbi_times swsm n))
resume_smbi swsm (smbi.Waiting n) r = smbi_times swsm n

abbrev pub told_smbi : ℕ → Step Action Smbi (Res (Unit {0})) → Call (Unit {0})
told_smbi swsm = told (resume_smbi swsm)

abbrev pub resume_clear : ℕ → ℕ → Clear → Reply → Call (Unit {0})
resume_clear reg bits clear.Reading r = end (checked r) >>= (λ v. write reg (without v bits))
resume_clear reg bits clear.Writing r = end (done r)

abbrev pub told_clear : ℕ → ℕ → Step Action Clear (Res (Unit {0})) → Call (Unit {0})
told_clear reg bits = told (resume_clear reg bits)

abbrev pub lock_after_smbi : Regs → Call (Unit {0}) → Call (Unit {0})
lock_after_smbi regs t = t >> regsmp_times regs 2000

abbrev pub lock_after_clear : Call (Unit {0}) → Call (Unit {0})
lock_after_clear t =
    do
      t
      flush
      fail (Semaphore 0x80000000)

abbrev pub lock_read : Regs → ℕ → Res ℕ → Call (Unit {0})
lock_read regs n v = end v >>= (λ v. pick (is_clear v 0x80000000) (return tt) (delay 50 >> regsmp_times regs n))

abbrev pub resume_lock : Regs → Lock → Reply → Call (Unit {0})
resume_lock regs (lock.Smbi s) r = lock_after_smbi regs (resume_smbi regs.swsm s r)
resume_lock regs (lock.Reading n) r = lock_read regs n (checked r)
resume_lock regs (lock.Waiting n) r = regsmp_times regs n
resume_lock regs (lock.Clearing s) r = lock_after_clear (resume_clear regs.swsm 1 s r)
resume_lock regs lock.Flushing r = end (done r) >> fail (Semaphore 0x80000000)

abbrev pub told_lock : Regs → Step Action Lock (Res (Unit {0})) → Call (Unit {0})
told_lock regs = told (resume_lock regs)

abbrev pub unlock_after_sync : Regs → Call (Unit {0}) → Call (Unit {0})
unlock_after_sync regs t =
    do
      t
      sync.clear regs.swsm 1
      flush

abbrev pub unlock_after_smbi : Call (Unit {0}) → Call (Unit {0})
unlock_after_smbi t = t >> flush

abbrev pub resume_unlock : Regs → Unlock → Reply → Call (Unit {0})
resume_unlock regs (unlock.Sync s) r = unlock_after_sync regs (resume_clear regs.sync 0x80000000 s r)
resume_unlock regs (unlock.Smbi s) r = unlock_after_smbi (resume_clear regs.swsm 1 s r)
resume_unlock regs unlock.Flushing r = end (done r)

abbrev pub told_unlock : Regs → Step Action Unlock (Res (Unit {0})) → Call (Unit {0})
told_unlock regs = told (resume_unlock regs)
