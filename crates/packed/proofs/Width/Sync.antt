-- How many words each state of sync is
use mathlib.Core.Path.{◌≡◌, refl}
use lib.ListN.{length, length-append}
use Rattle.sync.specs.declared.acquire_bits.AcquireBits.TheVariants as acquire_bitsv
use Rattle.sync.specs.declared.acquire_bits.AcquireBits.{AcquireBits}
use Rattle.sync.specs.declared.lock.Clear.TheVariants as clearv
use Rattle.sync.specs.declared.lock.Clear.{Clear}
use Rattle.sync.specs.declared.lock.Lock.TheVariants as lockv
use Rattle.sync.specs.declared.lock.Lock.{Lock}
use Rattle.sync.specs.declared.lock.Smbi.TheVariants as smbiv
use Rattle.sync.specs.declared.lock.Smbi.{Smbi}
use Rattle.sync.specs.declared.lock.Unlock.TheVariants as unlockv
use Rattle.sync.specs.declared.lock.Unlock.{Unlock}
use Rattle.sync.specs.declared.release_bits.ReleaseBits.TheVariants as release_bitsv
use Rattle.sync.specs.declared.release_bits.ReleaseBits.{ReleaseBits}
use Rattle.sync.specs.declared.set_mux.SetMux.TheVariants as set_muxv
use Rattle.sync.specs.declared.set_mux.SetMux.{SetMux}
use Rattle.sync.specs.declared.sync.Sync.TheVariants as syncv
use Rattle.sync.specs.declared.sync.Sync.{Sync}
use Rattle.packed.specs.Sync.{words_smbi, words_clear, words_lock, words_unlock, words_set_mux, words_acquire_bits, words_release_bits, words_sync}
use Rattle.packed.proofs.Width.Hardware.{nothing_or_error_length}

pub smbi_length : (s : Smbi) → length (words_smbi s) ≡ 2
unfolding words_smbi
smbi_length (smbiv.Reading x0) = refl
smbi_length (smbiv.Waiting x0) = refl

pub clear_length : (s : Clear) → length (words_clear s) ≡ 1
unfolding words_clear
clear_length clearv.Reading = refl
clear_length clearv.Writing = refl

pub lock_length : (s : Lock) → length (words_lock s) ≡ 3
unfolding words_lock
lock_length (lockv.Smbi x0) = simp smbi_length
lock_length (lockv.Reading x0) = refl
lock_length (lockv.Waiting x0) = refl
lock_length (lockv.Clearing x0) = simp (length-append, clear_length)
lock_length lockv.Flushing = refl

pub unlock_length : (s : Unlock) → length (words_unlock s) ≡ 2
unfolding words_unlock
unlock_length (unlockv.Sync x0) = simp clear_length
unlock_length (unlockv.Smbi x0) = simp clear_length
unlock_length unlockv.Flushing = refl

pub set_mux_length : (s : SetMux) → length (words_set_mux s) ≡ 1
unfolding words_set_mux
set_mux_length set_muxv.Reading = refl
set_mux_length set_muxv.Writing = refl
set_mux_length set_muxv.Flushing = refl

pub acquire_bits_length : (s : AcquireBits) → length (words_acquire_bits s) ≡ 9
unfolding words_acquire_bits
acquire_bits_length (acquire_bitsv.Locking x0 x1) = simp (length-append, lock_length)
acquire_bits_length (acquire_bitsv.Reading x0) = refl
acquire_bits_length acquire_bitsv.Writing = refl
acquire_bits_length (acquire_bitsv.Ending x0 x1) = simp (length-append, nothing_or_error_length, unlock_length)
acquire_bits_length (acquire_bitsv.Held x0 x1 x2) = simp (length-append, unlock_length)
acquire_bits_length (acquire_bitsv.Waiting x0 x1) = refl
acquire_bits_length (acquire_bitsv.Switching x0) = simp (length-append, set_mux_length)

pub release_bits_length : (s : ReleaseBits) → length (words_release_bits s) ≡ 9
unfolding words_release_bits
release_bits_length (release_bitsv.Switching x0) = simp (length-append, set_mux_length)
release_bits_length (release_bitsv.Locking x0) = simp (length-append, lock_length)
release_bits_length (release_bitsv.Clearing x0) = simp (length-append, clear_length)
release_bits_length (release_bitsv.Unlocking x0 x1) = simp (length-append, nothing_or_error_length, unlock_length)
release_bits_length release_bitsv.Waiting = refl

pub sync_length : (s : Sync) → length (words_sync s) ≡ 10
unfolding words_sync
sync_length (syncv.Take x0) = simp acquire_bits_length
sync_length (syncv.Give x0) = simp release_bits_length
