use Rattle.std.proofs.Common.{◌∙◌, ◌+◌, ◌-◌, ◌≡◌, ℕ, min, ap, sym, arith}
use Rattle.settings.specs.Calls.{is_free, first, free}
use Rattle.settings.proofs.FirstLaws.{first_none, first_within, part_found, next_part}
use Rattle.settings.proofs.free.free.Goals as goal

less : (end base : ℕ) → end - (base + 65536) ≡ end - base - 65536
less end base = omega arith

pub loop-base-init : goal.loop-base-init
unfolding free
loop-base-init c = record { left = ap (λ n. first (is_free c.args.words.now) 1 (n - 1)) c.min-end.ensures; low = omega arith; high = omega arith }

pub overflow_cast-result : goal.overflow_cast-result
overflow_cast-result c =
    let within = first_within (is_free c.args.words.now) c.loop-base.base (min (c.min-end.result - c.loop-base.base) 65536) {j = c.in-Some.index} (c.free_from.ensures ∙ c.in-Some.is) in
    let high = c.loop-base.invariant.high in omega arith

pub returns-in-Some : goal.returns-in-Some
returns-in-Some c =
    sym c.loop-base.invariant.left
    ∙ part_found (is_free c.args.words.now) c.loop-base.base (c.min-end.result - c.loop-base.base) (min (c.min-end.result - c.loop-base.base) 65536) _ (omega arith) (c.free_from.ensures ∙ c.in-Some.is)

pub loop-base-preserved : goal.loop-base-preserved
loop-base-preserved c =
    let s = c.args.words.now in
    let n = c.min-end.result - c.loop-base.base in
    record {
      left =
          ap (first (is_free s) (c.loop-base.base + 65536)) (less c.min-end.result c.loop-base.base) ∙ next_part (is_free s) c.loop-base.base n 65536 (c.free_from.ensures ∙ c.in_default.is) ∙ c.loop-base.invariant.left;
      low = omega arith;
      high = c.loop-base.invariant.high;
    }

pub returns : goal.returns
returns c = sym c.loop-base.invariant.left ∙ first_none (is_free c.args.words.now) _ _ (omega arith)
