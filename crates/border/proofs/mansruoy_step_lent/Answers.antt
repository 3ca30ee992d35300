use Rattle.std.proofs.Common.{ℕ, eqb, ap, ◌∙◌}
use Rattle.border.proofs.Laws.{step_leaves}
use Rattle.border.proofs.mansruoy_step_lent.Goals as goal

pub returns-in_default-number-clause-refused : goal.returns-in_default-number-clause-refused
returns-in_default-number-clause-refused c = λ out.
    let s = c.step_lent-s.ensures in
    step_leaves c.in-Some.own c.step_lent-s.result _ _ c.args.words.now c.step_lent-s.new.words s.stepped s.kept s.lends
    (ap (λ (n : ℕ). eqb n 0) c.number-2.ensures ∙ out)
