-- Words put behind each other are kept in their order, as far as there is room; an answer has room for twelve
use Prim.Native.Nat.{ℕ, zero, suc, ◌+◌, ◌-◌, ◌≤◌, ◌<◌}
use native.Mathlib.Numerals.{add-one}
use native.Mathlib.Omega.{arith}
use mathlib.Core.Path.{◌≡◌, refl, ap, sym, ◌∙◌}
use mathlib.Core.List.{List, [], ◌∷◌, ◌++◌, append_assoc, append-nil}
use lib.ListN.{length, take, drop, set, replicate, length-append, length-take}
use lib.Seq.{take_all, take_at, take-suc-set, drop-drop, drop_at}
use Rattle.std.proofs.lemmas.List.{length-set, length-take-le, take-append-drop, drop-set-lt, drop-replicate}
use Rattle.answers.specs.Shown.{kept, filled}

take_more : (n : ℕ) (xs ys : List ℕ) → take n (take n xs ++ ys) ≡ take n (xs ++ ys)
take_more zero xs ys = refl
take_more (suc n) [] ys = refl
take_more (suc n) (x ∷ xs) ys = ap (λ l. x ∷ l) (take_more n xs ys)

pub more : (n : ℕ) (xs ys zs : List ℕ) → take n (take n (xs ++ ys) ++ zs) ≡ take n (xs ++ (ys ++ zs))
more n xs ys zs = take_more n (xs ++ ys) zs ∙ ap (λ l. take n l) (append_assoc xs ys zs)

module _ (n : ℕ) (ws : List ℕ) where
  -- a word more, where there is room and where there is none
  pub word_more : (w : ℕ) → n < length ws → take (n + 1) (set ws n w) ≡ take (length ws) (take n ws ++ (w ∷ []))
  word_more w h =
      let front : take (n + 1) (set ws n w) ≡ take n ws ++ (w ∷ []) =
      rw add-one (take-suc-set ws n w (omega arith))
      in front ∙ sym (take_all (length ws) _ (simp (length-append, length-take) (omega arith)))

  pub word_left_out : (xs : List ℕ) → length ws ≤ n → take n ws ≡ take (length ws) (take n ws ++ xs)
  word_left_out xs h = sym (take_at (take n ws) xs (length ws) (simp length-take (omega arith)))

  -- nothing more
  pub nothing_more : take n ws ≡ take (length ws) (take n ws ++ [])
  nothing_more = rw append-nil (sym (take_all (length ws) (take n ws) (simp length-take (omega arith))))

pub added_more : (xs ys zs : List ℕ) → kept (kept (xs ++ ys) ++ zs) ≡ kept (xs ++ (ys ++ zs))
unfolding kept
added_more = more 12

-- zeros behind the first n of twelve words
module _ (n : ℕ) (ws : List ℕ) (room : n ≤ 12) (twelve : length ws ≡ 12) where
  zeros_of : filled (take n ws) ≡ ws → drop n ws ≡ replicate (12 - n) 0
  zeros_of e =
      let k : length (take n ws) ≡ n = length-take-le n ws (omega arith) in
      ap (drop n) (sym e) ∙ drop_at (take n ws) (replicate (12 - length (take n ws)) 0) n k ∙ ap (λ (m : ℕ). replicate (12 - m) 0) k

  filled_by : drop n ws ≡ replicate (12 - n) 0 → filled (take n ws) ≡ ws
  filled_by zeros =
      let k : length (take n ws) ≡ n = length-take-le n ws (omega arith) in
      rw (k, ← zeros) (take-append-drop n ws)

-- are zeros behind one word more
pub filled_more : (n : ℕ) (ws : List ℕ) (w : ℕ) → n < 12 → length ws ≡ 12 → filled (take n ws) ≡ ws → filled (take (n + 1) (set ws n w)) ≡ set ws n w
filled_more n ws w room twelve e =
    filled_by (n + 1) (set ws n w) (omega arith) (length-set ws n w ∙ twelve)
    (drop-set-lt (n + 1) ws n w (omega arith) ∙ sym (drop-drop 1 n ws) ∙ ap (drop 1) (zeros_of n ws (omega arith) twelve e) ∙ drop-replicate 1 (12 - n) 0
    ∙ ap (λ (m : ℕ). replicate m 0) (omega arith))

module _ (n : ℕ) (ws : List ℕ) (twelve : length ws ≡ 12) where
  pub room : (w : ℕ) → n < 12 → take (n + 1) (set ws n w) ≡ kept (take n ws ++ (w ∷ []))
  unfolding kept
  room w h = rw (← twelve) (word_more n ws w (omega arith))

  pub full : (xs : List ℕ) → 12 ≤ n → take n ws ≡ kept (take n ws ++ xs)
  unfolding kept
  full xs h = rw (← twelve) (word_left_out n ws xs (omega arith))

  pub none_more : take n ws ≡ kept (take n ws ++ [])
  unfolding kept
  none_more = rw (← twelve) (nothing_more n ws)
