use Rattle.std.proofs.Common.{ap, ◌∙◌, take, Ok}
use Prim.Native.Nat.{ℕ}
use Rattle.hardware.specs.Talk.{end}
use Rattle.jobs.specs.List.{list_of}
use Rattle.access.specs.Access.{bodies_then}
use Rattle.access.proofs.ListLaws.{pairs_read, none_left, pair_read}
use Rattle.access.proofs.place.Under.pair.Goals as goal

pub returns-then-i-lt64 : goal.returns-then-i-lt64
returns-then-i-lt64 c = let g = c.args in
    c.read_pair.ensures g.block.now ∙ ap (bodies_then g.self.frame) (pair_read g.phy g.i g.n g.block.now c.told-block c.if-i-n.true c.if-i-lt64.true)

pub returns-else-i-n : goal.returns-else-i-n
returns-else-i-n c = let g = c.args in
    c.releasing.ensures
    ∙ ap (λ (k : ℕ). bodies_then g.self.frame (end (Ok 0, take k (list_of g.block.now)))) c.min.ensures
    ∙ ap (bodies_then g.self.frame) (pairs_read g.phy g.i g.n g.block.now c.told-block (none_left g.phy g.i g.n g.block.now c.told-block c.else-i-n.either))
