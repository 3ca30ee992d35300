use Rattle.std.proofs.Common.{◌∙◌, ◌-◌, ◌+◌, ◌/◌, length, sym, ap, arith}
use Rattle.settings.specs.Records.{version, next}
use Rattle.settings.specs.Walk.{walked, walk_on}
use Rattle.settings.proofs.GoodLaws.{good_inside, inside_words}
use Rattle.settings.proofs.WalkLaws.{walk_over, walk_ended, walk_bad, walk_high, walk_next}
use Rattle.settings.proofs.walk.walk.Goals as goal

pub returns-then-index-eq0 : goal.returns-then-index-eq0
returns-then-index-eq0 c =
    sym c.loop.invariant ∙ walk_ended c.args.words.now c.args.wanted c.loop.walked c.loop.below _ c.loop.index (omega arith) (omega arith)

pub returns-then-not-is_good : goal.returns-then-not-is_good
returns-then-not-is_good c =
    sym c.loop.invariant
    ∙ walk_bad c.args.words.now c.args.wanted c.loop.walked c.loop.below _ c.loop.index (omega arith) (λ e. omega arith) (c.is_good.ensures ∙ c.if-not-is_good.true)

pub bounds-words-at : goal.bounds-words-at
bounds-words-at c =
    let inside = inside_words c.args.words.now c.loop.index (good_inside c.args.words.now c.loop.index (c.is_good.ensures ∙ c.if-not-is_good.false)) in omega arith

pub returns-then-version-below : goal.returns-then-version-below
returns-then-version-below c =
    sym c.loop.invariant
    ∙ walk_high c.args.words.now c.args.wanted c.loop.walked c.loop.below _ c.loop.index (omega arith) (λ e. omega arith) (omega arith)

pub bounds-words-at-in-loop : goal.bounds-words-at-in-loop
bounds-words-at-in-loop c =
    let inside = inside_words c.args.words.now c.loop.index (good_inside c.args.words.now c.loop.index (c.is_good.ensures ∙ c.if-not-is_good.false)) in omega arith

pub loop-preserved : goal.loop-preserved
loop-preserved c =
    let s = c.args.words.now in
    let l = c.loop in
    let n = c.loop.counter in
    ap (λ f. walk_on (length s / 8 - (n + 1)) s c.args.wanted (walked l.index f) (version s l.index) (next s l.index)) (sym c.seen.ensures)
    ∙ sym (walk_next s c.args.wanted l.walked l.below (length s / 8 - n) (length s / 8 - (n + 1)) l.index (omega arith) (λ e. omega arith) (c.is_good.ensures ∙ c.if-not-is_good.false) (omega arith))
    ∙ l.invariant

pub returns : goal.returns
returns c = sym c.loop.invariant ∙ walk_over c.args.words.now c.args.wanted c.loop.walked c.loop.below _ c.loop.index (omega arith)
