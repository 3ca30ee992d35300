-- How many words each state of watch is
use mathlib.Core.Path.{◌≡◌, refl}
use lib.ListN.{length, length-append}
use Rattle.watch.specs.declared.poll.Poll.TheVariants as pollv
use Rattle.watch.specs.declared.poll.Poll.{Poll}
use Rattle.packed.specs.Watch.{words_poll}
use Rattle.packed.proofs.Width.Kr.{kr_modify_length, kr_place_length}
use Rattle.packed.proofs.Width.Phy.{an_link_length}
use Rattle.packed.proofs.Width.Words.{maybe_word_length}

pub poll_length : (s : Poll) → length (words_poll s) ≡ 10
unfolding words_poll
poll_length (pollv.First x0) = simp (length-append, an_link_length)
poll_length pollv.Status = refl
poll_length (pollv.Second x0 x1) = simp (length-append, an_link_length)
poll_length (pollv.Force x0 x1 x2) = simp (length-append, maybe_word_length, kr_modify_length, kr_place_length)
