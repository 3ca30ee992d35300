-- A turn of reading digits, to any base
use Prim.Native.Nat.{ℕ, suc, ◌+◌, ◌*◌, ◌^◌, ◌≤◌, ◌<◌}
use mathlib.Core.Path.{◌≡◌}
use mathlib.Core.List.{List}
use native.Mathlib.Omega.{arith}
use native.Mathlib.Numerals.{add-one}
use native.Mathlib.Nat.{mul-suc, pow-succ', lt_of_lt_of_le, mul-le-mul_left}
use lib.ListN.{length, drop, get_or, drop_of_length-le}
use lib.Seq.{drop-cons}
use Rattle.std.proofs.Common.{Option, Some, None}
use Rattle.text.specs.Number.{value_of}

module _ (base : ℕ) (digit : ℕ → Option ℕ) (word : List ℕ) (i v : ℕ) where
  pub value_end : length word ≤ i → value_of base digit v (drop i word) ≡ Some v
  unfolding value_of
  value_end h = rw (drop_of_length-le word h)

  pub value_stop : i < length word → digit (get_or word i 0) ≡ None → value_of base digit v (drop i word) ≡ None
  unfolding value_of
  value_stop h e = rw (drop-cons word i 0 h) (simp e)

  pub value_next : (d : ℕ) → i < length word → digit (get_or word i 0) ≡ Some d
      → value_of base digit v (drop i word) ≡ value_of base digit (base * v + d) (drop (i + 1) word)
  unfolding value_of
  value_next d h e = rw (drop-cons word i 0 h) (simp (e, add-one))

-- a number of i digits, and one more
pub one_more : (base i v d : ℕ) → v < base ^ i → d < base → base * v + d < base ^ (i + 1)
one_more base i v d h k =
    let up : suc v ≤ base ^ i = omega (arith, h) in
    let next : base * v + d < base * suc v = rw (mul-suc base v) (omega (arith, k)) in
    rw (add-one i, pow-succ' base i) (lt_of_lt_of_le next (mul-le-mul_left base up))
