-- How many words each state of x552 is
use mathlib.Core.Path.{◌≡◌, refl}
use lib.ListN.{length, length-append}
use Rattle.x552.specs.declared.link.CopperLink.TheVariants as copper_linkv
use Rattle.x552.specs.declared.link.CopperLink.{CopperLink}
use Rattle.x552.specs.declared.prepare.PrepareCopper.TheVariants as prepare_copperv
use Rattle.x552.specs.declared.prepare.PrepareCopper.{PrepareCopper}
use Rattle.packed.specs.X552.{words_prepare_copper, words_copper_link}
use Rattle.packed.proofs.Width.Kr.{kr_modify_length, kr_place_length}
use Rattle.packed.proofs.Width.Phy.{advertise_place_length, an_link_length, clock_length, modify_length, probe_length, reset_length}
use Rattle.packed.proofs.Width.Words.{maybe_word_length}

pub prepare_copper_length : (s : PrepareCopper) → length (words_prepare_copper s) ≡ 7
unfolding words_prepare_copper
prepare_copper_length (prepare_copperv.Clock x0) = simp (length-append, clock_length)
prepare_copper_length prepare_copperv.Sel = refl
prepare_copper_length (prepare_copperv.Probe x0 x1) = simp (length-append, probe_length)
prepare_copper_length (prepare_copperv.Scan x0 x1) = simp (length-append, probe_length)
prepare_copper_length (prepare_copperv.Alarms x0) = refl
prepare_copper_length (prepare_copperv.Unstall x0 x1) = simp (length-append, modify_length)
prepare_copper_length (prepare_copperv.Reset x0 x1 x2) = simp reset_length

pub copper_link_length : (s : CopperLink) → length (words_copper_link s) ≡ 11
unfolding words_copper_link
copper_link_length copper_linkv.Abilities = refl
copper_link_length (copper_linkv.Ixfi x0 x1) = simp (length-append, maybe_word_length, kr_modify_length, kr_place_length)
copper_link_length (copper_linkv.Waiting x0 x1) = refl
copper_link_length (copper_linkv.Links x0 x1) = refl
copper_link_length (copper_linkv.Linking x0 x1 x2) = simp (length-append, an_link_length)
copper_link_length (copper_linkv.Advertise x0 x1) = simp (length-append, modify_length, advertise_place_length)
