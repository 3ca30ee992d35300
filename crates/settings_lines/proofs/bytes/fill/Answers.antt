use Rattle.std.proofs.Common.{ℕ, Bool, List, ◌≡◌, ◌+◌, ◌*◌, ◌++◌, ◌∷◌, [], length, drop, append_assoc, append-nil, length-append, ap, sym, ◌∙◌, arith}
use Rattle.settings_lines.specs.Bytes.{words_of}
use Rattle.settings_lines.proofs.ByteLaws.{words_more, words_end, kept_room}
use Rattle.settings_lines.proofs.bytes.fill.Goals as goal

pub loop-place-preserved : goal.loop-place-preserved
loop-place-preserved c =
    let bs = c.args.bytes.now in
    let i = c.loop-place.place in
    let w = c.word_at.result in
    let rest = words_of (drop (4 * (i + 1)) bs) in
    let same : c.add.new.self ≡ c.loop-place.kept ++ w ∷ [] = ap (λ (p : Bool × List ℕ). p.1) (sym c.add.ensures ∙ kept_room c.loop-place.kept w (let n = c.loop-place.invariant.count in omega arith)) in
    let front : words_of (drop (4 * i) bs) ≡ w ∷ rest = words_more bs i (omega arith) ∙ ap (λ (x : ℕ). x ∷ rest) c.word_at.ensures in
    record {
      count = ap (λ (l : List ℕ). length l) same ∙ length-append c.loop-place.kept (w ∷ []) ∙ (let n = c.loop-place.invariant.count in omega arith);
      words = ap (λ (l : List ℕ). l ++ rest) same ∙ append_assoc c.loop-place.kept (w ∷ []) rest ∙ ap (λ (l : List ℕ). c.loop-place.kept ++ l) (sym front) ∙ c.loop-place.invariant.words;
    }

pub returns : goal.returns
returns c =
    let none = words_end c.args.bytes.now c.loop-place.place (omega arith) in
    sym c.loop-place.invariant.words ∙ ap (λ (l : List ℕ). c.loop-place.kept ++ l) none ∙ append-nil c.loop-place.kept
