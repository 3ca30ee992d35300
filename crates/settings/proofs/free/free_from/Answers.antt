use Rattle.std.proofs.Common.{◌∙◌, ◌+◌, ◌≡◌, ◌<◌, ◌||◌, ℕ, Bool, List, false, not, min, option_map, add-zero, ap, sym, arith}
use Rattle.settings.specs.Records.{records, head, chain_from}
use Rattle.settings.specs.Whole.{has}
use Rattle.settings.specs.Calls.{is_free, first}
use Rattle.settings.specs.Walk.{is_marked}
use Rattle.settings.proofs.FirstLaws.{first_moved, first_within}
use Rattle.settings.proofs.MarkLaws.{unmarked_both}
use Rattle.settings.proofs.free.free_from.Goals as goal

module _ (s : List ℕ) (base count : ℕ) (none some all : List ℕ) {h i : ℕ} (head0 : head s 0 ≡ h) (head1 : head s 1 ≡ i)
    (new : (k : ℕ) → is_marked none k ≡ false)
    (one : (k : ℕ) → k < 65536 → is_marked some k ≡ has (base + k) (chain_from (records s) s h) || is_marked none k)
    (two : (k : ℕ) → k < 65536 → is_marked all k ≡ has (base + k) (chain_from (records s) s i) || is_marked some k) where
  same : (k : ℕ) → k < 65536 → not (is_marked all k) ≡ is_free s (base + k)
  same k l =
      rw (head0, head1)
      (unmarked_both (has (base + k) (chain_from (records s) s i)) (has (base + k) (chain_from (records s) s h)) (is_marked all k) (is_marked some k) (two k l)
      (one k l ∙ ap (λ (b : Bool). has (base + k) (chain_from (records s) s h) || b) (new k)))

  found : option_map (λ j. base + j) (first (λ k. not (is_marked all k)) 0 (min count 65536)) ≡ first (is_free s) base (min count 65536)
  found =
      first_moved (is_free s) (λ k. not (is_marked all k)) base 0 (min count 65536) (λ j l h. same j (omega arith))
      ∙ ap (λ j. first (is_free s) j (min count 65536)) (add-zero base)

pub overflow_add-result : goal.overflow_add-result
overflow_add-result c =
    let within = first_within (λ k. not (is_marked c.mark-2.new.marks.words k)) 0 (min c.args.count 65536) {j = c.in-Some.place} (c.unmarked.ensures ∙ c.in-Some.is) in
    omega arith

pub returns-in-Some : goal.returns-in-Some
returns-in-Some c =
    let s = c.args.words.now in
    sym (found s c.args.base c.args.count c.new-marks.result.words c.mark.new.marks.words c.mark-2.new.marks.words c.word.ensures c.word-2.ensures c.new-marks.ensures c.mark.ensures c.mark-2.ensures)
    ∙ ap (option_map (λ j. c.args.base + j)) (c.unmarked.ensures ∙ c.in-Some.is)

pub returns-in-None : goal.returns-in-None
returns-in-None c =
    let s = c.args.words.now in
    sym (found s c.args.base c.args.count c.new-marks.result.words c.mark.new.marks.words c.mark-2.new.marks.words c.word.ensures c.word-2.ensures c.new-marks.ensures c.mark.ensures c.mark-2.ensures)
    ∙ ap (option_map (λ j. c.args.base + j)) (c.unmarked.ensures ∙ c.in-None.is)
