use Rattle.std.proofs.Common.{ap, ◌∙◌, take}
use mathlib.Core.List.{List}
use Prim.Native.Nat.{ℕ}
use Rattle.hostif.specs.Exchange.{told_exchange}
use Rattle.access.specs.Access.{beside, rest_of, words_of}
use Rattle.run_access.proofs.Moved.{exchange_told}
use Rattle.run_access.proofs.exchange.ExchangeLent.next.Goals as goal

pub returns : goal.returns
returns c = let g = c.args in
    exchange_told g.whose c.next.new.block c.next.result
    ∙ ap (λ (ws : List ℕ). beside ws (told_exchange (take (words_of g.whose) c.next.new.block) c.next.result)) c.next.ensures.list
    ∙ ap (beside (rest_of g.whose g.block.now)) c.next.ensures.exchange
