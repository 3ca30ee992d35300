use Rattle.x553.proofs.Laws.{reset_place}
use borrow.Author.Tests.{ne_eqb}
use Rattle.x553.proofs.prepare.PrepareFirmware.info.Goals as goal

pub returns : goal.returns
returns c = simp (c.phy_info-phy.ensures, ne_eqb _ _ c.if-phy-eq0.false, ne_eqb _ _ c.if-phy.false, c.begin.ensures) (simp (c.if-managed.false, reset_place))
