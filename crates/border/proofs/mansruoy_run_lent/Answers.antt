use Rattle.std.proofs.Common.{ℕ, sym, ap, ◌∙◌}
use Rattle.border.specs.Border.{not_run, ran_of}
use Rattle.border.specs.declared.Ran.{Ran}
use Rattle.border.proofs.Laws.{run_away, run_leaves}
use Rattle.border.proofs.mansruoy_run_lent.Goals as goal

pub returns-in-AfterEnd-clause-ran : goal.returns-in-AfterEnd-clause-ran
returns-in-AfterEnd-clause-ran c =
    ap (λ (r : Ran). ran_of r c.run_lent-r.new.words c.run_lent-r.new.transcript)
    (c.not_run-in-AfterEnd.ensures ∙ ap (λ (n : ℕ). not_run n c.args.c c.args.at) (sym c.number-in-AfterEnd.ensures))
    ∙ run_away c.args.c c.args.replies.now c.args.transcript.now c.args.at c.args.words.now c.in-Some.own c.run_lent-r.result _ _
    c.run_lent-r.ensures.shown (c.taken.ensures ∙ c.in-Some.is) c.in-AfterEnd.is

pub returns-in-AfterEnd-clause-refused : goal.returns-in-AfterEnd-clause-refused
returns-in-AfterEnd-clause-refused c = λ _.
    let r = c.run_lent-r.ensures in
    run_leaves c.in-Some.own c.run_lent-r.result _ _ _ _ c.args.words.now c.run_lent-r.new.words r.shown r.kept r.lends c.in-AfterEnd.is
