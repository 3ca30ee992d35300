use Rattle.std.proofs.Common.{Bool, sym, ap, ◌∙◌, take}
use Rattle.jobs.specs.List.{list_of}
use mathlib.Core.List.{List}
use Prim.Native.Nat.{ℕ}
use Rattle.jobs.specs.Token.{token_words}
use Rattle.access.specs.Frame.{command_by}
use Rattle.access.specs.Access.{command_then}
use Rattle.access.specs.declared.place.CommandFor.TheVariants as whose
use Rattle.access.proofs.place.Under.token.Goals as goal

pub returns : goal.returns
returns c = let g = c.args in
    ap (λ (takes : Bool). command_then g.self (list_of g.block.now) (whose.Token g.place) (command_by g.self.frame (token_words g.self.frame.lan takes))) c.takes.ensures
    ∙ ap (λ (ws : List ℕ). command_then g.self (list_of g.block.now) (whose.Token g.place) (command_by g.self.frame ws)) (sym c.put.ensures.words)
    ∙ ap (λ (list : List ℕ). command_then g.self list (whose.Token g.place) (command_by g.self.frame (take 2 c.put.new.block))) (sym c.put.ensures.list)
    ∙ c.command.ensures _
