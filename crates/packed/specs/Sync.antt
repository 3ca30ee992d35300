-- The words of sync's states: a kind from 1 on, its numbers, its parts, and zeros up to the type's width
use Rattle.std.specs.Prelude.{ℕ, List, [], ◌∷◌, ◌++◌, eqb, drop, replicate}
use Rattle.hardware.specs.Talk.{pick}
use Rattle.packed.specs.Tape.{word_at}
use Rattle.packed.specs.Hardware.{get_error, words_error}
use Rattle.packed.specs.Packed.{get_nothing, get_result, words_nothing, words_result}
use Rattle.sync.specs.declared.acquire_bits.AcquireBits.TheVariants as acquire_bitsv
use Rattle.sync.specs.declared.acquire_bits.AcquireBits.{AcquireBits}
use Rattle.sync.specs.declared.lock.Clear.TheVariants as clearv
use Rattle.sync.specs.declared.lock.Clear.{Clear}
use Rattle.sync.specs.declared.lock.Lock.TheVariants as lockv
use Rattle.sync.specs.declared.lock.Lock.{Lock}
use Rattle.sync.specs.declared.lock.Smbi.TheVariants as smbiv
use Rattle.sync.specs.declared.lock.Smbi.{Smbi}
use Rattle.sync.specs.declared.lock.Unlock.TheVariants as unlockv
use Rattle.sync.specs.declared.lock.Unlock.{Unlock}
use Rattle.sync.specs.declared.release_bits.ReleaseBits.TheVariants as release_bitsv
use Rattle.sync.specs.declared.release_bits.ReleaseBits.{ReleaseBits}
use Rattle.sync.specs.declared.set_mux.SetMux.TheVariants as set_muxv
use Rattle.sync.specs.declared.set_mux.SetMux.{SetMux}
use Rattle.sync.specs.declared.sync.Sync.TheVariants as syncv
use Rattle.sync.specs.declared.sync.Sync.{Sync}

-- 2 words
unfoldable pub words_smbi : Smbi → List ℕ
words_smbi (smbiv.Reading x) = 1 ∷ x ∷ []
words_smbi (smbiv.Waiting x) = 2 ∷ x ∷ []

unfoldable pub get_smbi : List ℕ → Smbi
get_smbi s =
    pick (eqb (word_at s 0) 1) (smbiv.Reading (word_at s 1)) (
    smbiv.Waiting (word_at s 1))

-- 1 words
unfoldable pub words_clear : Clear → List ℕ
words_clear clearv.Reading = 1 ∷ []
words_clear clearv.Writing = 2 ∷ []

unfoldable pub get_clear : List ℕ → Clear
get_clear s =
    pick (eqb (word_at s 0) 1) (clearv.Reading) (
    clearv.Writing)

-- 3 words
unfoldable pub words_lock : Lock → List ℕ
words_lock (lockv.Smbi smbi) = 1 ∷ words_smbi smbi
words_lock (lockv.Reading x) = 2 ∷ x ∷ 0 ∷ []
words_lock (lockv.Waiting x) = 3 ∷ x ∷ 0 ∷ []
words_lock (lockv.Clearing clear) = 4 ∷ (words_clear clear) ++ (0 ∷ [])
words_lock lockv.Flushing = 5 ∷ replicate 2 0

unfoldable pub get_lock : List ℕ → Lock
get_lock s =
    pick (eqb (word_at s 0) 1) (lockv.Smbi (get_smbi (drop 1 s))) (
    pick (eqb (word_at s 0) 2) (lockv.Reading (word_at s 1)) (
    pick (eqb (word_at s 0) 3) (lockv.Waiting (word_at s 1)) (
    pick (eqb (word_at s 0) 4) (lockv.Clearing (get_clear (drop 1 s))) (
    lockv.Flushing))))

-- 2 words
unfoldable pub words_unlock : Unlock → List ℕ
words_unlock (unlockv.Sync clear) = 1 ∷ words_clear clear
words_unlock (unlockv.Smbi clear) = 2 ∷ words_clear clear
words_unlock unlockv.Flushing = 3 ∷ 0 ∷ []

unfoldable pub get_unlock : List ℕ → Unlock
get_unlock s =
    pick (eqb (word_at s 0) 1) (unlockv.Sync (get_clear (drop 1 s))) (
    pick (eqb (word_at s 0) 2) (unlockv.Smbi (get_clear (drop 1 s))) (
    unlockv.Flushing))

-- 1 words
unfoldable pub words_set_mux : SetMux → List ℕ
words_set_mux set_muxv.Reading = 1 ∷ []
words_set_mux set_muxv.Writing = 2 ∷ []
words_set_mux set_muxv.Flushing = 3 ∷ []

unfoldable pub get_set_mux : List ℕ → SetMux
get_set_mux s =
    pick (eqb (word_at s 0) 1) (set_muxv.Reading) (
    pick (eqb (word_at s 0) 2) (set_muxv.Writing) (
    set_muxv.Flushing))

-- 9 words
unfoldable pub words_acquire_bits : AcquireBits → List ℕ
words_acquire_bits (acquire_bitsv.Locking x lock) = 1 ∷ x ∷ (words_lock lock) ++ (replicate 4 0)
words_acquire_bits (acquire_bitsv.Reading x) = 2 ∷ x ∷ replicate 7 0
words_acquire_bits acquire_bitsv.Writing = 3 ∷ replicate 8 0
words_acquire_bits (acquire_bitsv.Ending nothing_or_error unlock) = 4 ∷ (words_result 0 5 words_nothing words_error nothing_or_error) ++ (words_unlock unlock)
words_acquire_bits (acquire_bitsv.Held x y unlock) = 5 ∷ x ∷ y ∷ (words_unlock unlock) ++ (replicate 4 0)
words_acquire_bits (acquire_bitsv.Waiting x y) = 6 ∷ x ∷ y ∷ replicate 6 0
words_acquire_bits (acquire_bitsv.Switching set_mux) = 7 ∷ (words_set_mux set_mux) ++ (replicate 7 0)

unfoldable pub get_acquire_bits : List ℕ → AcquireBits
get_acquire_bits s =
    pick (eqb (word_at s 0) 1) (acquire_bitsv.Locking (word_at s 1) (get_lock (drop 2 s))) (
    pick (eqb (word_at s 0) 2) (acquire_bitsv.Reading (word_at s 1)) (
    pick (eqb (word_at s 0) 3) (acquire_bitsv.Writing) (
    pick (eqb (word_at s 0) 4) (acquire_bitsv.Ending (get_result get_nothing get_error (drop 1 s)) (get_unlock (drop 7 s))) (
    pick (eqb (word_at s 0) 5) (acquire_bitsv.Held (word_at s 1) (word_at s 2) (get_unlock (drop 3 s))) (
    pick (eqb (word_at s 0) 6) (acquire_bitsv.Waiting (word_at s 1) (word_at s 2)) (
    acquire_bitsv.Switching (get_set_mux (drop 1 s))))))))

-- 9 words
unfoldable pub words_release_bits : ReleaseBits → List ℕ
words_release_bits (release_bitsv.Switching set_mux) = 1 ∷ (words_set_mux set_mux) ++ (replicate 7 0)
words_release_bits (release_bitsv.Locking lock) = 2 ∷ (words_lock lock) ++ (replicate 5 0)
words_release_bits (release_bitsv.Clearing clear) = 3 ∷ (words_clear clear) ++ (replicate 7 0)
words_release_bits (release_bitsv.Unlocking nothing_or_error unlock) = 4 ∷ (words_result 0 5 words_nothing words_error nothing_or_error) ++ (words_unlock unlock)
words_release_bits release_bitsv.Waiting = 5 ∷ replicate 8 0

unfoldable pub get_release_bits : List ℕ → ReleaseBits
get_release_bits s =
    pick (eqb (word_at s 0) 1) (release_bitsv.Switching (get_set_mux (drop 1 s))) (
    pick (eqb (word_at s 0) 2) (release_bitsv.Locking (get_lock (drop 1 s))) (
    pick (eqb (word_at s 0) 3) (release_bitsv.Clearing (get_clear (drop 1 s))) (
    pick (eqb (word_at s 0) 4) (release_bitsv.Unlocking (get_result get_nothing get_error (drop 1 s)) (get_unlock (drop 7 s))) (
    release_bitsv.Waiting))))

-- 10 words
unfoldable pub words_sync : Sync → List ℕ
words_sync (syncv.Take acquire_bits) = 1 ∷ words_acquire_bits acquire_bits
words_sync (syncv.Give release_bits) = 2 ∷ words_release_bits release_bits

unfoldable pub get_sync : List ℕ → Sync
get_sync s =
    pick (eqb (word_at s 0) 1) (syncv.Take (get_acquire_bits (drop 1 s))) (
    syncv.Give (get_release_bits (drop 1 s)))
