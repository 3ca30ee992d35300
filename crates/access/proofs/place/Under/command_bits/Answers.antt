use Rattle.std.proofs.Common.{ap, ◌∙◌}
use Prim.Native.Nat.{ℕ}
use mathlib.Core.List.{List}
use Rattle.hardware.specs.Talk.{Talk, Res}
use Rattle.access.specs.Access.{beside, exchange_then, rest_of}
use Rattle.std.proofs.Common.{take}
use Rattle.access.specs.Access.{words_of}
use Rattle.reference.specs.Hostif.{exchange}
use Rattle.access.proofs.Asks.{exchange_lem}
use Rattle.access.proofs.place.Under.command_bits.Goals as goal

pub returns-in-Ok : goal.returns-in-Ok
returns-in-Ok c = let g = c.args in
    simp (c.in-Acquiring.is, c.in-Ok.is)
    (c.exchanged.ensures _ ∙ ap (λ (t : Talk (Res ℕ × List ℕ)). exchange_then g.self g.whose (beside (rest_of g.whose g.block.now) t)) (c.start.ensures _)
    ∙ exchange_lem g.self g.whose (rest_of g.whose g.block.now) (exchange (take (words_of g.whose) g.block.now)))
