use Rattle.std.proofs.Common.{arith, ◌∙◌}
use Rattle.conversation.proofs.Laws.{few, few_pairs, bounded, begun_long, begun_kept}
use Rattle.conversation.proofs.conversation.Conversation.begin.Goals as goal

pub kept-requires-clause-block : goal.kept-requires-clause-block
kept-requires-clause-block c = few c.args.port c.args.what c.args.block.now c.request-request.ensures c.if-request-gt-KEPT.false

pub kept-requires-clause-list : goal.kept-requires-clause-list
kept-requires-clause-list c = few_pairs c.args.port c.args.what c.args.block.now c.request-request.ensures (c.refusal.ensures ∙ c.in-Ok.is)

pub overflow_cast-request : goal.overflow_cast-request
overflow_cast-request c =
    let few = bounded c.args.port c.args.what c.args.block.now c.request-request.ensures (c.refusal.ensures ∙ c.in-Ok.is) in
    omega (arith, few)

pub returns-then-request-gt-KEPT-clause-begun : goal.returns-then-request-gt-KEPT-clause-begun
returns-then-request-gt-KEPT-clause-begun c =
    c.long.ensures.told _ ∙ begun_long c.args.port c.args.what c.args.block.now c.request-request.ensures (c.refusal.ensures ∙ c.in-Ok.is) c.if-request-gt-KEPT.true

pub returns-else-request-gt-KEPT-clause-begun : goal.returns-else-request-gt-KEPT-clause-begun
returns-else-request-gt-KEPT-clause-begun c =
    c.kept.ensures.told _ ∙ begun_kept c.args.port c.args.what c.args.block.now c.request-request.ensures (c.refusal.ensures ∙ c.in-Ok.is)

pub returns-else-request-gt-KEPT-clause-kept : goal.returns-else-request-gt-KEPT-clause-kept
returns-else-request-gt-KEPT-clause-kept c = λ e ws.
    c.kept.ensures.told ws ∙ begun_kept c.args.port c.args.what c.args.block.now c.request-request.ensures (c.refusal.ensures ∙ c.in-Ok.is)
