use Rattle.std.proofs.Common.{sym, ◌∙◌}
use Rattle.start.proofs.Laws.{list_none, list_some}
use Rattle.start.proofs.start.mdio_list.Goals as goal

pub returns-then-n-eq0 : goal.returns-then-n-eq0
returns-then-n-eq0 c = let g = c.args in
    λ b long. c.plain.ensures g.port b ∙ list_none g.port g.phy g.pairs b long (sym c.min-n.ensures ∙ c.if-n-eq0.true)

pub returns-else-n-eq0 : goal.returns-else-n-eq0
returns-else-n-eq0 c = let g = c.args in
    λ b long. list_some g.port g.phy g.pairs b long c.min-n.ensures c.if-n-eq0.false
