-- `unfolding computing` lets an operation over a script be computed
use Rattle.std.specs.Prelude.{⊤}
use Rattle.hardware.specs.Bits.{bit}
use Rattle.hardware.specs.Talk.{times}
use Rattle.words.specs.Hostif as hostwords
use Rattle.words.specs.Kr.{krm}
use Rattle.words.specs.Link.{copper}
use Rattle.words.specs.Mdio.{address}
use Rattle.words.specs.Phy.{phy_id, identifier}
use Rattle.words.specs.Semaphore.{bits, software, firmware, flash}
use Rattle.reference.specs.Acquire as acquire
use Rattle.reference.specs.Bringup.{bringup}
use Rattle.reference.specs.Hardware.{linked}
use Rattle.reference.specs.Hostif as hostif
use Rattle.reference.specs.Mdio as mdio
use Rattle.reference.specs.Sync as sync
use Rattle.reference.specs.Watch as watch
use Rattle.reference.specs.Window as window
use Rattle.reference.specs.X552 as x552
use Rattle.reference.specs.X553 as x553

unfoldable pub words_computing : ⊤
unfolding bit bits software firmware flash address krm phy_id identifier copper hostwords.swap_bytes hostwords.nvm_address
    hostwords.fits hostwords.reply_words
words_computing = tt

unfoldable pub sync_computing : ⊤
unfolding times sync.mux sync.acquire_bits sync.settle sync.release_bits
sync_computing = tt

unfoldable pub hostif_computing : ⊤
unfolding hostif.posted hostif.post hostif.received hostif.command hostif.token_word hostif.token_status hostif.token
    hostif.activity_block hostif.activity_words hostif.phy_activity
hostif_computing = tt

unfoldable pub acquire_computing : ⊤
unfolding acquire.acquire_lost acquire.acquire_given acquire.acquire_got acquire.acquire_ask acquire.acquire acquire.release_rest
    acquire.release
acquire_computing = tt

unfoldable pub mdio_computing : ⊤
unfolding mdio.cycle mdio.mask mdio.read_reg mdio.mdio_list mdio.write_reg mdio.modify mdio.probe mdio.scan mdio.reset mdio.speeds_of
    mdio.abilities mdio.bit mdio.nbase_keep mdio.nbase_set mdio.advertise mdio.an_link
mdio_computing = tt

unfoldable pub kr_computing : ⊤
unfolding x552.iosf_idle x552.kr_read x552.kr_write x552.kr_modify x552.restart_an x552.kr_autoneg_set x552.kr_autoneg
    x552.ixfi_set x552.ixfi x552.nvm_word
kr_computing = tt

unfoldable pub bringup_computing : ⊤
unfolding x552.mdcspd x552.internal_of x552.prepared_copper x552.prepare_copper x552.after_reset x552.without100 x552.copper_link
    x553.phy_info x553.setup_fw_link x553.prepare_firmware x553.after_reset x553.sgmii x553.sgmii_an x553.setup_firmware bringup
bringup_computing = tt

unfoldable pub computing : ⊤
unfolding linked words_computing sync_computing hostif_computing acquire_computing mdio_computing kr_computing bringup_computing
    watch.is_forced window.due window.window_poll
computing = tt
