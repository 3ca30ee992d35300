use Rattle.std.proofs.Common.{◌∙◌, ◌+◌, ◌-◌, ◌/◌, ◌||◌, ℕ, Bool, List, eqb, length, ap, sym, arith}
use Rattle.settings.specs.Records.{next, chain_from}
use Rattle.settings.specs.Whole.{has}
use Rattle.settings.specs.Walk.{is_marked}
use Rattle.settings.proofs.ChainLaws.{chain_out, chain_end, chain_next, or_moved}
use Rattle.settings.proofs.free.mark.Goals as goal

pub returns-then-index-eq0 : goal.returns-then-index-eq0
returns-then-index-eq0 c = λ k h.
    let left = c.loop.invariant k h in
    rw (chain_end c.args.words.now (length c.args.words.now / 8 - c.loop.counter) c.loop.index (omega arith)) at left

pub loop-preserved : goal.loop-preserved
loop-preserved c = λ k h.
    let s = c.args.words.now in
    let j = c.args.base + k in
    let n = length s / 8 - c.loop.counter in
    let m = length s / 8 - (c.loop.counter + 1) in
    let i = c.loop.index in
    let rest = has j (chain_from m s (next s i)) in
    let old = is_marked c.loop.marks.words k in
    ap (λ (x : ℕ). has j (chain_from m s x) || is_marked c.mark_record.new.marks.words k) (sym c.word-index.ensures)
    ∙ ap (λ (b : Bool). rest || b) (c.mark_record.ensures k h)
    ∙ or_moved (eqb i j) rest old
    ∙ ap (λ (is : List ℕ). has j is || old) (sym (chain_next s n m i (omega arith) (λ e. omega arith)))
    ∙ c.loop.invariant k h

pub returns : goal.returns
returns c = λ k h.
    let left = c.loop.invariant k h in rw (chain_out c.args.words.now (length c.args.words.now / 8 - c.loop.counter) c.loop.index (omega arith)) at left
