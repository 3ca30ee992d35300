-- Arguments, one by one
use Prim.Native.Nat.{ℕ, suc, ◌+◌, ◌≤◌}
use mathlib.Core.Path.{◌≡◌, ap, sym}
use mathlib.Core.List.{List, [], ◌∷◌}
use native.Mathlib.Omega.{arith}
use native.Mathlib.Nat.{add-zero}
use native.Mathlib.Numerals.{add-one}
use lib.ListN.{length, set}
use lib.Seq.{sets, set_out}
use Rattle.std.proofs.Common.{Option, Some, None}
use Rattle.hardware.specs.Talk.{pick}
use Rattle.text.specs.Hex.{hex_word}
use Rattle.trace.specs.Arguments.{numbers, all_numbers}

-- a place past the end
pub past_end : (l : List ℕ) (i v : ℕ) → length l ≤ i → l ≡ set l i v
past_end l i v h = sym (set_out l i v h)

-- where n of them have been read
abbrev pub arguments_from : ℕ → List (List ℕ) → Option ℕ
arguments_from n ws = pick (all_numbers ws) (Some (n + length ws)) None

pub none_left : (n : ℕ) → arguments_from n [] ≡ Some n
none_left n = ap Some (add-zero n)

module _ (w : List ℕ) (ws : List (List ℕ)) where
  pub no_number : hex_word 8 8 w ≡ None → (n : ℕ) → arguments_from n (w ∷ ws) ≡ None
  no_number e n = rw e

  pub no_value : hex_word 8 8 w ≡ None → numbers (w ∷ ws) ≡ []
  no_value e = rw e

  module _ {v : ℕ} (e : hex_word 8 8 w ≡ Some v) (n : ℕ) where
    pub one_read : arguments_from n (w ∷ ws) ≡ arguments_from (n + 1) ws
    one_read =
        let count : n + suc (length ws) ≡ n + 1 + length ws = omega arith in
        rw (e, count)

    pub one_kept : (out : List ℕ) → sets out n (numbers (w ∷ ws)) ≡ sets (set out n v) (n + 1) (numbers ws)
    one_kept out = rw (e, add-one n)
