-- How many words each state of access is
use Prim.Native.Nat.{ℕ}
use mathlib.Core.Path.{◌≡◌, refl}
use mathlib.Core.List.{List, ◌++◌}
use lib.ListN.{length, drop, length-append}
use lib.Seq.{drop_at}
use Rattle.access.specs.declared.body.Body.TheVariants as bodyv
use Rattle.access.specs.declared.body.Body.{Body}
use Rattle.access.specs.declared.body.Held.TheVariants as heldv
use Rattle.access.specs.declared.body.Held.{Held}
use Rattle.access.specs.declared.place.AccessPlace.TheVariants as access_placev
use Rattle.access.specs.declared.place.AccessPlace.{AccessPlace}
use Rattle.access.specs.declared.place.BitsPlace.TheVariants as bits_placev
use Rattle.access.specs.declared.place.BitsPlace.{BitsPlace}
use Rattle.access.specs.declared.place.CommandFor.TheVariants as command_forv
use Rattle.access.specs.declared.place.CommandFor.{CommandFor}
use Rattle.access.specs.declared.place.CommandPlace.TheVariants as command_placev
use Rattle.access.specs.declared.place.CommandPlace.{CommandPlace}
use Rattle.access.specs.declared.place.HoldFor.TheVariants as hold_forv
use Rattle.access.specs.declared.place.HoldFor.{HoldFor}
use Rattle.access.specs.declared.place.SyncFor.TheVariants as sync_forv
use Rattle.access.specs.declared.place.SyncFor.{SyncFor}
use Rattle.access.specs.declared.place.TokenPlace.TheVariants as token_placev
use Rattle.access.specs.declared.place.TokenPlace.{TokenPlace}
use Rattle.packed.specs.Access.{words_held, words_hold_for, words_bits_place, words_token_place, words_command_for, words_command_place, words_sync_for, words_body, words_access_place}
use Rattle.packed.proofs.Width.Hardware.{flag_or_error_length, nothing_or_error_length, word_or_error_length}
use Rattle.packed.proofs.Width.Hostif.{exchange_length}
use Rattle.packed.proofs.Width.Mdio.{mdio_length, wanted_length}
use Rattle.packed.proofs.Width.Sideband.{kr_length, kr_wanted_length, nvm_length}
use Rattle.packed.proofs.Width.Sync.{sync_length}

pub held_length : (s : Held) → length (words_held s) ≡ 5
unfolding words_held
held_length (heldv.Mdio x0) = simp (length-append, wanted_length)
held_length (heldv.Kr x0) = simp kr_wanted_length
held_length (heldv.Nvm x0) = refl

pub hold_for_length : (s : HoldFor) → length (words_hold_for s) ≡ 8
unfolding words_hold_for
hold_for_length hold_forv.Alone = refl
hold_for_length (hold_forv.Acquiring x0) = simp (length-append, held_length)
hold_for_length (hold_forv.Listing x0 x1 x2) = refl
hold_for_length (hold_forv.Releasing x0 x1) = simp word_or_error_length

pub drop_hold_for : (s : HoldFor) (rest : List ℕ) → drop 8 (words_hold_for s ++ rest) ≡ rest
drop_hold_for s rest = drop_at (words_hold_for s) rest 8 (hold_for_length s)

pub bits_place_length : (s : BitsPlace) → length (words_bits_place s) ≡ 8
unfolding words_bits_place
bits_place_length bits_placev.Plain = refl
bits_place_length (bits_placev.Taking x0) = refl
bits_place_length (bits_placev.Freeing x0 x1) = simp flag_or_error_length
bits_place_length (bits_placev.Giving x0) = simp (length-append, nothing_or_error_length)

pub token_place_length : (s : TokenPlace) → length (words_token_place s) ≡ 2
unfolding words_token_place
token_place_length (token_placev.Taking x0) = refl
token_place_length token_placev.Giving = refl

pub command_for_length : (s : CommandFor) → length (words_command_for s) ≡ 3
unfolding words_command_for
command_for_length (command_forv.Job x0) = refl
command_for_length (command_forv.Token x0) = simp token_place_length

pub drop_command_for : (s : CommandFor) (rest : List ℕ) → drop 3 (words_command_for s ++ rest) ≡ rest
drop_command_for s rest = drop_at (words_command_for s) rest 3 (command_for_length s)

pub command_place_length : (s : CommandPlace) → length (words_command_place s) ≡ 7
unfolding words_command_place
command_place_length command_placev.Acquiring = refl
command_place_length (command_placev.Releasing x0) = simp word_or_error_length

pub drop_command_place : (s : CommandPlace) (rest : List ℕ) → drop 7 (words_command_place s ++ rest) ≡ rest
drop_command_place s rest = drop_at (words_command_place s) rest 7 (command_place_length s)

pub sync_for_length : (s : SyncFor) → length (words_sync_for s) ≡ 11
unfolding words_sync_for
sync_for_length (sync_forv.Bits x0) = simp (length-append, bits_place_length)
sync_for_length (sync_forv.Command x0 x1) = simp (length-append, command_for_length, command_place_length)

pub drop_sync_for : (s : SyncFor) (rest : List ℕ) → drop 11 (words_sync_for s ++ rest) ≡ rest
drop_sync_for s rest = drop_at (words_sync_for s) rest 11 (sync_for_length s)

pub body_length : (s : Body) → length (words_body s) ≡ 9
unfolding words_body
body_length (bodyv.Mdio x0 x1) = simp (length-append, wanted_length, mdio_length)
body_length (bodyv.Kr x0 x1) = simp (length-append, kr_wanted_length, kr_length)
body_length (bodyv.Nvm x0) = simp (length-append, nvm_length)

pub access_place_length : (s : AccessPlace) → length (words_access_place s) ≡ 22
unfolding words_access_place
access_place_length access_placev.Reading = refl
access_place_length access_placev.Writing = refl
access_place_length access_placev.Waiting = refl
access_place_length (access_placev.Sync x0 x1) = simp (length-append, sync_for_length, sync_length)
access_place_length (access_placev.Exchange x0 x1) = simp (length-append, command_for_length, exchange_length)
access_place_length (access_placev.Body x0) = simp (length-append, body_length)
access_place_length (access_placev.Pausing x0) = refl

pub drop_access_place : (s : AccessPlace) (rest : List ℕ) → drop 22 (words_access_place s ++ rest) ≡ rest
drop_access_place s rest = drop_at (words_access_place s) rest 22 (access_place_length s)
