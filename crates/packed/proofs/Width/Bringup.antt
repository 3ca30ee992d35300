-- How many words each state of bringup is
use mathlib.Core.Path.{◌≡◌, refl}
use lib.ListN.{length, length-append}
use Rattle.bringup.specs.declared.Bringup.TheVariants as bringupv
use Rattle.bringup.specs.declared.Bringup.{Bringup}
use Rattle.bringup.specs.declared.Lane.TheVariants as lanev
use Rattle.bringup.specs.declared.Lane.{Lane}
use Rattle.packed.specs.Bringup.{words_lane, words_bringup}
use Rattle.packed.proofs.Width.Answers.{internal_length}
use Rattle.packed.proofs.Width.Kr.{kr_modify_length, kr_place_length}
use Rattle.packed.proofs.Width.Phy.{clock_length}
use Rattle.packed.proofs.Width.Words.{maybe_word_length}
use Rattle.packed.proofs.Width.X552.{copper_link_length, prepare_copper_length}
use Rattle.packed.proofs.Width.X553.{prepare_firmware_length, setup_firmware_length, sgmii_length}

pub lane_length : (s : Lane) → length (words_lane s) ≡ 2
unfolding words_lane
lane_length (lanev.Kr x0) = refl
lane_length lanev.Sgmii = refl

pub bringup_length : (s : Bringup) → length (words_bringup s) ≡ 18
unfolding words_bringup
bringup_length (bringupv.Clock x0 x1) = simp (length-append, clock_length)
bringup_length (bringupv.Copper x0) = simp (length-append, prepare_copper_length)
bringup_length (bringupv.Firmware x0) = simp (length-append, prepare_firmware_length)
bringup_length (bringupv.Sel x0) = refl
bringup_length (bringupv.Mmngc x0) = simp (length-append, lane_length)
bringup_length (bringupv.Kr x0) = simp (length-append, maybe_word_length, kr_modify_length, kr_place_length)
bringup_length (bringupv.Sgmii x0) = simp (length-append, sgmii_length)
bringup_length (bringupv.Link x0 x1) = simp (length-append, internal_length, copper_link_length)
bringup_length (bringupv.SetupFirmware x0) = simp (length-append, setup_firmware_length)
