use Rattle.std.proofs.Common.{ℕ, List, ◌∙◌, ap}
use Rattle.settings_lines.specs.declared.turn.Turn.{Turn}
use Rattle.settings_lines.specs.Turn.{load, behind_first}
use Rattle.settings_lines.proofs.turn.load_turn.Goals as goal

pub returns-in-None : goal.returns-in-None
unfolding load
returns-in-None c =
    ap (λ (fs : List (List ℕ)). load c.args.kept.now (behind_first fs)) c.in-None.ensures.line_value ∙ ap (λ (t : Turn). (t, c.args.kept.now)) c.passed.ensures
