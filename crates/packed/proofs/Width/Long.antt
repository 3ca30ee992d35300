-- How many words each state of long is
use mathlib.Core.Path.{◌≡◌}
use lib.ListN.{length, length-append}
use Rattle.long.specs.declared.command.LongPlace.TheVariants as long_placev
use Rattle.long.specs.declared.command.LongPlace.{LongPlace}
use Rattle.packed.specs.Long.{words_long_place}
use Rattle.packed.proofs.Width.Access.{command_place_length}
use Rattle.packed.proofs.Width.Hostif.{exchange_length}
use Rattle.packed.proofs.Width.Sync.{sync_length}

pub long_place_length : (s : LongPlace) → length (words_long_place s) ≡ 18
unfolding words_long_place
long_place_length (long_placev.Sync x0 x1) = simp (length-append, command_place_length, sync_length)
long_place_length (long_placev.Exchange x0) = simp (length-append, exchange_length)
