-- What a caller knows of the reply at a place: by the script's length, and by the answer
use Prim.Native.Nat.{ℕ, ◌+◌, ◌<◌, ◌≤◌}
use mathlib.Core.Path.{◌≡◌, sym, ap, ◌∙◌}
use mathlib.Core.List.{List}
use native.Mathlib.Omega.{arith}
use borrow.Author.Tests.{le-leb, lt-leb}
use lib.ListN.{length, get_or}
use Rattle.script.specs.Script.{pair_at}
use Rattle.std.specs.Prelude.{Option, Some, None}
use Rattle.std.specs.Option.{unwrap_or}

module _ (rs : List ℕ) (at : ℕ) where
  pub both : at + 2 ≤ length rs → pair_at rs at ≡ Some (get_or rs at 0, get_or rs (at + 1) 0)
  unfolding pair_at
  both h = simp (le-leb _ _ h)

  pub short : length rs < at + 2 → pair_at rs at ≡ None
  unfolding pair_at
  short h = simp (lt-leb _ _ h)

  pub has_none : pair_at rs at ≡ None → length rs < at + 2
  has_none e =
      let no : at + 2 ≤ length rs → ⊥ = λ h. let b = both h in let z : ◌≡◌ {A = ℕ} 0 1 = cc in omega arith in
      omega arith

  pub has_both : {k v : ℕ} → pair_at rs at ≡ Some (k, v) → at + 2 ≤ length rs
  has_both e =
      let no : length rs < at + 2 → ⊥ = λ h. let s = short h in let z : ◌≡◌ {A = ℕ} 0 1 = cc in omega arith in
      omega arith

  pub are : {k v : ℕ} → pair_at rs at ≡ Some (k, v) → (get_or rs at 0 ≡ k) × (get_or rs (at + 1) 0 ≡ v)
  are e =
      let b = sym (both (has_both e)) ∙ e in
      (ap (λ (o : Option (ℕ × ℕ)). (unwrap_or {T = ℕ × ℕ} o (0, 0)).0) b, ap (λ (o : Option (ℕ × ℕ)). (unwrap_or {T = ℕ × ℕ} o (0, 0)).1) b)
