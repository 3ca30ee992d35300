-- Replies that are read ahead, one by one
use Prim.Native.Nat.{ℕ, zero, suc, ◌+◌, ◌*◌, ◌/◌, ◌≤◌, ◌<◌, min}
use mathlib.Core.Path.{◌≡◌, refl, ap, ◌∙◌}
use mathlib.Core.List.{List, [], ◌∷◌, ◌++◌}
use native.Mathlib.Omega.{arith}
use Rattle.std.proofs.Common.{Option, Some, None}
use lib.ListN.{length, set, get_or, take}
use lib.Seq.{sets}
use Rattle.lines.specs.Listing.{action_text, lines_text}
use Rattle.streams.specs.Batch.{LineReply, reply_at, replies, words_ahead, places_ahead}
use Rattle.streams.specs.Input.{input}
use Rattle.streams.specs.declared.input.Input.{Input}

module _ (buf : List ℕ) (i : Input) where
  pub none_left : (k : ℕ) → k ≤ 0 → replies k buf i ≡ []
  unfolding replies
  none_left zero h = refl
  none_left (suc k) h = let z : ⊥ = omega arith in absurd z

  pub none_more : (k : ℕ) → None ≡ reply_at buf i → replies k buf i ≡ []
  unfolding replies
  none_more zero e = refl
  none_more (suc k) e = rw (← e) refl

  pub one_more : (k j : ℕ) {r : Option LineReply} {a : LineReply} → reply_at buf i ≡ r → r ≡ Some a → k ≡ suc j
      → replies k buf i ≡ a ∷ replies j buf (input a.2 i.to i.ended i.cases)
  unfolding replies
  one_more k j e f h = rw (h, e, f) refl

-- one reply is put down
module _ {rs rest : List LineReply} {a : LineReply} (e : rs ≡ a ∷ rest) (c : ℕ) where
  pub counted : {n : ℕ} → n ≡ c + length rs → n ≡ c + 1 + length rest
  counted {n} h =
      let more : length rs ≡ suc (length rest) = ap length e in
      omega arith

  pub kept : {all : List ℕ} (words : List ℕ) → all ≡ sets words (2 * c) (words_ahead rs)
      → all ≡ sets (set (set words (2 * c) a.0) (2 * c + 1) a.1) (2 * (c + 1)) (words_ahead rest)
  kept words h =
      let second : 2 * c + 1 ≡ suc (2 * c) = omega arith in
      let third : 2 * (c + 1) ≡ suc (suc (2 * c)) = omega arith in
      h ∙ rw (second, third) (ap (λ (l : List LineReply). sets words (2 * c) (words_ahead l)) e)

  pub placed : {all : List ℕ} (behind : List ℕ) → all ≡ sets behind c (places_ahead rs) → all ≡ sets (set behind c a.2) (c + 1) (places_ahead rest)
  placed behind h =
      let second : c + 1 ≡ suc c = omega arith in
      h ∙ rw second (ap (λ (l : List LineReply). sets behind c (places_ahead l)) e)

-- the lines of the first k actions, or of as many as there are
abbrev pub lines_left : ℕ → List ℕ → List ℕ
lines_left k t = lines_text (take (3 * min k (length t / 3)) t)

pub line_left : (t action rest : List ℕ) (k j : ℕ) → t ≡ action ++ rest → length action ≡ 3 → j + 1 ≡ k
    → lines_left k t ≡ action_text (get_or action 0 0) (get_or action 1 0) (get_or action 2 0) ++ lines_left j rest
line_left t [] rest k j e h g = absurd (omega arith)
line_left t (a ∷ []) rest k j e h g = absurd (omega arith)
line_left t (a ∷ b ∷ []) rest k j e h g = absurd (omega arith)
line_left t (a ∷ b ∷ c ∷ d ∷ ds) rest k j e h g = absurd (omega arith)
line_left t (a ∷ b ∷ c ∷ []) rest k j e h g =
    let count : 3 * min k (suc (suc (suc (length rest))) / 3) ≡ suc (suc (suc (3 * min j (length rest / 3)))) = omega (arith, g) in
    rw (e, count) refl

pub no_line_left : (t : List ℕ) (k : ℕ) → (0 < k → length t < 3) → lines_left k t ≡ []
no_line_left t zero h =
    let count : 3 * min 0 (length t / 3) ≡ 0 = omega arith in
    rw count refl
no_line_left t (suc k) h =
    let count : 3 * min (suc k) (length t / 3) ≡ 0 = omega (arith, h (omega arith)) in
    rw count refl
