use mathlib.Core.Path.{sym}
use Rattle.x552.proofs.link.CopperLink.next.Goals as goal

pub returns-in-Advertise : goal.returns-in-Advertise
returns-in-Advertise c = λ b. simp (c.in-Advertise.is, c.asked.ensures, c.next-step-in-Advertise.ensures, c.after_advertise.ensures) (simp (sym c.asked.ensures))
