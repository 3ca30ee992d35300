use Rattle.access.proofs.Laws.{read_begun, write_begun}
use Rattle.access.proofs.place.Begun.of.Goals as goal

pub returns-in-ReadReg : goal.returns-in-ReadReg
returns-in-ReadReg c = simp (c.in-ReadReg.is, read_begun, c.address.ensures, c.mask.ensures, c.under.ensures)

pub returns-in-WriteReg : goal.returns-in-WriteReg
returns-in-WriteReg c = simp (c.in-WriteReg.is, write_begun, c.address-in-WriteReg.ensures, c.mask-in-WriteReg.ensures, c.under-in-WriteReg.ensures)

pub returns-in-ReadList : goal.returns-in-ReadList
returns-in-ReadList c = simp (c.in-ReadList.is) c.listing.ensures
