use Rattle.std.proofs.Common.{◌∙◌, ap, not, arith}
use Rattle.settings.specs.Walk.{is_marked}
use Rattle.settings.proofs.FirstLaws.{first_none, first_here, first_later}
use Rattle.settings.proofs.free.unmarked.Goals as goal

pub returns-then-not-has : goal.returns-then-not-has
returns-then-not-has c =
    c.loop-place.invariant ∙ first_here (λ k. not (is_marked c.args.marks.now.words k)) _ _ (omega arith) (ap not (c.has.ensures ∙ c.if-not-has.true))

pub loop-place-preserved : goal.loop-place-preserved
loop-place-preserved c =
    c.loop-place.invariant ∙ first_later (λ k. not (is_marked c.args.marks.now.words k)) _ _ _ (omega arith) (ap not (c.has.ensures ∙ c.if-not-has.false))

pub returns : goal.returns
returns c = c.loop-place.invariant ∙ first_none (λ k. not (is_marked c.args.marks.now.words k)) _ _ (omega arith)
