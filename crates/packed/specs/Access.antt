-- The words of access's states: a kind from 1 on, its numbers, its parts, and zeros up to the type's width
use Rattle.std.specs.Prelude.{ℕ, ◌%◌, ◌/◌, List, [], ◌∷◌, ◌++◌, eqb, drop, replicate}
use Rattle.hardware.specs.Talk.{pick}
use Rattle.packed.specs.Tape.{word_at, joined}
use Rattle.access.specs.declared.body.Body.TheVariants as bodyv
use Rattle.access.specs.declared.body.Body.{Body}
use Rattle.access.specs.declared.body.Held.TheVariants as heldv
use Rattle.access.specs.declared.body.Held.{Held}
use Rattle.access.specs.declared.place.AccessPlace.TheVariants as access_placev
use Rattle.access.specs.declared.place.AccessPlace.{AccessPlace}
use Rattle.access.specs.declared.place.BitsPlace.TheVariants as bits_placev
use Rattle.access.specs.declared.place.BitsPlace.{BitsPlace}
use Rattle.access.specs.declared.place.CommandFor.TheVariants as command_forv
use Rattle.access.specs.declared.place.CommandFor.{CommandFor}
use Rattle.access.specs.declared.place.CommandPlace.TheVariants as command_placev
use Rattle.access.specs.declared.place.CommandPlace.{CommandPlace}
use Rattle.access.specs.declared.place.HoldFor.TheVariants as hold_forv
use Rattle.access.specs.declared.place.HoldFor.{HoldFor}
use Rattle.access.specs.declared.place.SyncFor.TheVariants as sync_forv
use Rattle.access.specs.declared.place.SyncFor.{SyncFor}
use Rattle.access.specs.declared.place.TokenPlace.TheVariants as token_placev
use Rattle.access.specs.declared.place.TokenPlace.{TokenPlace}
use Rattle.packed.specs.Hardware.{get_error, words_error}
use Rattle.packed.specs.Hostif.{get_exchange, words_exchange}
use Rattle.packed.specs.Mdio.{get_mdio, get_wanted, words_mdio, words_wanted}
use Rattle.packed.specs.Packed.{get_flag, get_nothing, get_result, get_word, words_flag, words_nothing, words_result, words_word}
use Rattle.packed.specs.Sideband.{get_kr, get_kr_wanted, get_nvm, words_kr, words_kr_wanted, words_nvm}
use Rattle.packed.specs.Sync.{get_sync, words_sync}

-- 5 words
unfoldable pub words_held : Held → List ℕ
words_held (heldv.Mdio wanted) = 1 ∷ (words_wanted wanted) ++ (0 ∷ [])
words_held (heldv.Kr kr_call) = 2 ∷ kr_call.pause ∷ words_kr_wanted kr_call.wanted
words_held (heldv.Nvm x) = 3 ∷ x ∷ replicate 3 0

unfoldable pub get_held : List ℕ → Held
get_held s =
    pick (eqb (word_at s 0) 1) (heldv.Mdio (get_wanted (drop 1 s))) (
    pick (eqb (word_at s 0) 2) (heldv.Kr (record { pause = (word_at s 1); wanted = (get_kr_wanted (drop 2 s)) })) (
    heldv.Nvm (word_at s 1 % 65536)))

-- 8 words
unfoldable pub words_hold_for : HoldFor → List ℕ
words_hold_for hold_forv.Alone = 1 ∷ replicate 7 0
words_hold_for (hold_forv.Acquiring held) = 2 ∷ (words_held held) ++ (replicate 2 0)
words_hold_for (hold_forv.Listing x y z) = 3 ∷ x ∷ y ∷ z ∷ replicate 4 0
words_hold_for (hold_forv.Releasing word_or_error y) = 4 ∷ y ∷ words_result 1 5 words_word words_error word_or_error

unfoldable pub get_hold_for : List ℕ → HoldFor
get_hold_for s =
    pick (eqb (word_at s 0) 1) (hold_forv.Alone) (
    pick (eqb (word_at s 0) 2) (hold_forv.Acquiring (get_held (drop 1 s))) (
    pick (eqb (word_at s 0) 3) (hold_forv.Listing (word_at s 1) (word_at s 2 % 256) (word_at s 3 % 256)) (
    hold_forv.Releasing (get_result get_word get_error (drop 2 s)) (word_at s 1 % 256))))

-- 8 words
unfoldable pub words_bits_place : BitsPlace → List ℕ
words_bits_place bits_placev.Plain = 1 ∷ replicate 7 0
words_bits_place (bits_placev.Taking x) = 2 ∷ x ∷ replicate 6 0
words_bits_place (bits_placev.Freeing x flag_or_error) = 3 ∷ x ∷ words_result 1 5 words_flag words_error flag_or_error
words_bits_place (bits_placev.Giving nothing_or_error) = 4 ∷ (words_result 0 5 words_nothing words_error nothing_or_error) ++ (0 ∷ [])

unfoldable pub get_bits_place : List ℕ → BitsPlace
get_bits_place s =
    pick (eqb (word_at s 0) 1) (bits_placev.Plain) (
    pick (eqb (word_at s 0) 2) (bits_placev.Taking (word_at s 1)) (
    pick (eqb (word_at s 0) 3) (bits_placev.Freeing (word_at s 1) (get_result get_flag get_error (drop 2 s))) (
    bits_placev.Giving (get_result get_nothing get_error (drop 1 s)))))

-- 2 words
unfoldable pub words_token_place : TokenPlace → List ℕ
words_token_place (token_placev.Taking x) = 1 ∷ x ∷ []
words_token_place token_placev.Giving = 2 ∷ 0 ∷ []

unfoldable pub get_token_place : List ℕ → TokenPlace
get_token_place s =
    pick (eqb (word_at s 0) 1) (token_placev.Taking (word_at s 1)) (
    token_placev.Giving)

-- 3 words
unfoldable pub words_command_for : CommandFor → List ℕ
words_command_for (command_forv.Job x) = 1 ∷ (x % 4294967296) ∷ (x / 4294967296) ∷ []
words_command_for (command_forv.Token token_place) = 2 ∷ words_token_place token_place

unfoldable pub get_command_for : List ℕ → CommandFor
get_command_for s =
    pick (eqb (word_at s 0) 1) (command_forv.Job (joined (word_at s 1) (word_at s 2))) (
    command_forv.Token (get_token_place (drop 1 s)))

-- 7 words
unfoldable pub words_command_place : CommandPlace → List ℕ
words_command_place command_placev.Acquiring = 1 ∷ replicate 6 0
words_command_place (command_placev.Releasing word_or_error) = 2 ∷ words_result 1 5 words_word words_error word_or_error

unfoldable pub get_command_place : List ℕ → CommandPlace
get_command_place s =
    pick (eqb (word_at s 0) 1) (command_placev.Acquiring) (
    command_placev.Releasing (get_result get_word get_error (drop 1 s)))

-- 11 words
unfoldable pub words_sync_for : SyncFor → List ℕ
words_sync_for (sync_forv.Bits bits_place) = 1 ∷ (words_bits_place bits_place) ++ (replicate 2 0)
words_sync_for (sync_forv.Command command_for command_place) = 2 ∷ (words_command_for command_for) ++ (words_command_place command_place)

unfoldable pub get_sync_for : List ℕ → SyncFor
get_sync_for s =
    pick (eqb (word_at s 0) 1) (sync_forv.Bits (get_bits_place (drop 1 s))) (
    sync_forv.Command (get_command_for (drop 1 s)) (get_command_place (drop 4 s)))

-- 9 words
unfoldable pub words_body : Body → List ℕ
words_body (bodyv.Mdio wanted mdio) = 1 ∷ (words_wanted wanted) ++ ((words_mdio mdio) ++ (0 ∷ []))
words_body (bodyv.Kr kr_call kr) = 2 ∷ kr_call.pause ∷ (words_kr_wanted kr_call.wanted) ++ (words_kr kr)
words_body (bodyv.Nvm nvm) = 3 ∷ (words_nvm nvm) ++ (replicate 3 0)

unfoldable pub get_body : List ℕ → Body
get_body s =
    pick (eqb (word_at s 0) 1) (bodyv.Mdio (get_wanted (drop 1 s)) (get_mdio (drop 4 s))) (
    pick (eqb (word_at s 0) 2) (bodyv.Kr (record { pause = (word_at s 1); wanted = (get_kr_wanted (drop 2 s)) }) (get_kr (drop 5 s))) (
    bodyv.Nvm (get_nvm (drop 1 s))))

-- 22 words
unfoldable pub words_access_place : AccessPlace → List ℕ
words_access_place access_placev.Reading = 1 ∷ replicate 21 0
words_access_place access_placev.Writing = 2 ∷ replicate 21 0
words_access_place access_placev.Waiting = 3 ∷ replicate 21 0
words_access_place (access_placev.Sync sync_for sync) = 4 ∷ (words_sync_for sync_for) ++ (words_sync sync)
words_access_place (access_placev.Exchange command_for exchange) = 5 ∷ (words_command_for command_for) ++ ((words_exchange exchange) ++ (replicate 13 0))
words_access_place (access_placev.Body body) = 6 ∷ (words_body body) ++ (replicate 12 0)
words_access_place (access_placev.Pausing x) = 7 ∷ x ∷ replicate 20 0

unfoldable pub get_access_place : List ℕ → AccessPlace
get_access_place s =
    pick (eqb (word_at s 0) 1) (access_placev.Reading) (
    pick (eqb (word_at s 0) 2) (access_placev.Writing) (
    pick (eqb (word_at s 0) 3) (access_placev.Waiting) (
    pick (eqb (word_at s 0) 4) (access_placev.Sync (get_sync_for (drop 1 s)) (get_sync (drop 12 s))) (
    pick (eqb (word_at s 0) 5) (access_placev.Exchange (get_command_for (drop 1 s)) (get_exchange (drop 4 s))) (
    pick (eqb (word_at s 0) 6) (access_placev.Body (get_body (drop 1 s))) (
    access_placev.Pausing (word_at s 1)))))))
