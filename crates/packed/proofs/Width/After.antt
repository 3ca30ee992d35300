-- How many words each state of after is
use mathlib.Core.Path.{◌≡◌, refl}
use lib.ListN.{length, length-append}
use Rattle.after.specs.declared.After.TheVariants as afterv
use Rattle.after.specs.declared.After.{After}
use Rattle.after.specs.declared.kr_registers.Kr.TheVariants as krv
use Rattle.after.specs.declared.kr_registers.Kr.{Kr}
use Rattle.after.specs.declared.registers.Mdio.TheVariants as mdiov
use Rattle.after.specs.declared.registers.Mdio.{Mdio}
use Rattle.packed.specs.After.{words_mdio, words_kr, words_after}
use Rattle.packed.proofs.Width.Activity.{activity_length}
use Rattle.packed.proofs.Width.Answers.{internal_length, maybe_half_length}
use Rattle.packed.proofs.Width.Arguments.{maybe_flag_length}
use Rattle.packed.proofs.Width.Bringup.{bringup_length}
use Rattle.packed.proofs.Width.Kr.{kr_modify_length, kr_place_length}
use Rattle.packed.proofs.Width.Phy.{advertise_place_length, an_link_length, clock_length, modify_length, probe_length, reset_length}
use Rattle.packed.proofs.Width.Watch.{poll_length}
use Rattle.packed.proofs.Width.Words.{maybe_word_length}

pub after_mdio_length : (s : Mdio) → length (words_mdio s) ≡ 11
unfolding words_mdio
after_mdio_length (mdiov.Modify x0 x1) = simp (length-append, modify_length)
after_mdio_length (mdiov.Probe x0 x1) = simp (length-append, probe_length)
after_mdio_length (mdiov.Scan x0) = simp (length-append, probe_length)
after_mdio_length (mdiov.Reset x0 x1 x2) = simp (length-append, reset_length)
after_mdio_length (mdiov.AnLink x0 x1) = simp (length-append, an_link_length)
after_mdio_length (mdiov.Advertise x0 x1) = simp (length-append, modify_length, maybe_flag_length, advertise_place_length)
after_mdio_length (mdiov.Clock x0 x1) = simp (length-append, clock_length)

pub after_kr_length : (s : Kr) → length (words_kr s) ≡ 8
unfolding words_kr
after_kr_length (krv.Modify x0 x1) = simp (length-append, kr_modify_length)
after_kr_length (krv.Sequence x0) = simp (length-append, maybe_word_length, kr_modify_length, kr_place_length)

pub after_length : (s : After) → length (words_after s) ≡ 20
unfolding words_after
after_length afterv.Nothing = refl
after_length afterv.Word = refl
after_length afterv.Veto = refl
after_length afterv.Link = refl
after_length afterv.Abilities = refl
after_length (afterv.Command x0) = refl
after_length (afterv.List x0) = refl
after_length (afterv.Token x0) = refl
after_length (afterv.Activity x0 x1) = simp (length-append, activity_length)
after_length (afterv.Mdio x0) = simp (length-append, after_mdio_length)
after_length (afterv.Kr x0) = simp (length-append, after_kr_length)
after_length (afterv.Bringup x0 x1) = simp bringup_length
after_length (afterv.Poll x0 x1) = simp (length-append, internal_length, maybe_half_length, poll_length)
