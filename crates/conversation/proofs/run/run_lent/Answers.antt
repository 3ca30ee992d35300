use Rattle.std.proofs.Common.{◌≡◌, true, rules, ap, ◌∙◌}
use Rattle.conversation.specs.Conversation.{conv_of, is_lent}
use Rattle.calls.proofs.Laws.{run_taken, run_shut}
use Rattle.conversation.specs.Run.{shown_of}
use Rattle.conversation.specs.declared.run.Ran.{Ran}
use Rattle.conversation.proofs.Laws.{run_back}
use Rattle.conversation.proofs.run.run_lent.Goals as goal

pub returns-clause-shown : goal.returns-clause-shown
returns-clause-shown c =
    let lent : is_lent c.args.c c.args.words.now ≡ true = search rules in
    run_back _ _ c.if-transcript-at.false (conv_of c.args.c c.args.words.now) _ c.run_on-r.result _ _ c.run_on-r.ensures.t_after
    ∙ run_taken _ (conv_of c.args.c c.args.words.now) _ _ _ (c.goes_on.ensures _ ∙ c.if-not-goes_on.false) (c.is_bad.ensures ∙ c.if-is_bad.false) lent

pub returns-then-transcript-at-clause-shown : goal.returns-then-transcript-at-clause-shown
returns-then-transcript-at-clause-shown c =
    let lent : is_lent c.args.c c.args.words.now ≡ true = search rules in
    ap (λ (r : Ran). shown_of r c.args.words.now c.args.transcript.now) c.refused-then-transcript-at.ensures
    ∙ run_shut _ (conv_of c.args.c c.args.words.now) _ _ _ (c.goes_on.ensures _ ∙ c.if-not-goes_on.false) (c.is_bad.ensures ∙ c.if-is_bad.false) lent c.if-transcript-at.true
