-- The laws of words: a blank that is passed, a letter that joins the word, the word's end
use Prim.Native.Nat.{ℕ, zero, suc, ◌+◌, ◌-◌, ◌≤◌, ◌<◌}
use mathlib.Core.Path.{◌≡◌, refl, ap, ap₂, sym, ◌∙◌}
use mathlib.Core.Bool.{Bool, true, false, true≢false}
use mathlib.Core.List.{List, [], ◌∷◌, ◌++◌, append-nil, append_assoc}
use native.Mathlib.Omega.{arith}
use native.Mathlib.Nat.{add-zero}
use Rattle.std.proofs.lemmas.Slice.{between_to_end}
use Rattle.text.proofs.PartLaws.{part_slice}
use Rattle.std.proofs.Common.{Some, None, position, not, ltb, cond, ltb-false}
use Rattle.std.specs.List.{position_or_len}
use Rattle.std.proofs.lemmas.List.Sums.{fails_before_first}
use Rattle.std.proofs.lemmas.List.Quantifiers.{position-Some}
use lib.ListN.{length, take, drop, get_or, drop_of_length-le, take-append-drop, length-drop}
use lib.Seq.{slice, length-take-le, drop-cons, drop-drop, take_all, get_or-drop}
use Rattle.text.specs.Words.{is_blank, pieces, full, words}

full_cons : (w : List ℕ) (ws : List (List ℕ)) → 0 < length w → full (w ∷ ws) ≡ w ∷ full ws
unfolding full
full_cons [] ws h = let z : ⊥ = omega arith in absurd z
full_cons (b ∷ w) ws h = refl

pub no_words : (line : List ℕ) (at : ℕ) → length line ≤ at → words (drop at line) ≡ []
unfolding words pieces full
no_words line at h = rw (drop_of_length-le line h)

-- What pins `words` down: blanks in front do not count, and a run of letters that is not empty is a word where it ends

abbrev pub Letters : List ℕ → Type 0
Letters [] = Unit {0}
Letters (b ∷ bs) = (is_blank b ≡ false) × Letters bs

pieces_letters : (w v rest : List ℕ) → Letters w → pieces v (w ++ rest) ≡ pieces (v ++ w) rest
unfolding pieces
pieces_letters [] v rest h = rw (append-nil v)
pieces_letters (b ∷ w) v rest h =
    rw h.0 (pieces_letters w (v ++ b ∷ []) rest h.1 ∙ ap (λ (l : List ℕ). pieces l rest) (append_assoc v (b ∷ []) w))

pub words_none : words [] ≡ []
unfolding words pieces full
words_none = refl

pub words_blank : (b : ℕ) (rest : List ℕ) → is_blank b ≡ true → words (b ∷ rest) ≡ words rest
unfolding words pieces full
words_blank b rest e = rw e

pub words_last : (w : List ℕ) → 0 < length w → Letters w → words w ≡ w ∷ []
unfolding words pieces full
words_last w h l = ap (λ (x : List ℕ). words x) (sym (append-nil w)) ∙ ap full (pieces_letters w [] [] l) ∙ full_cons w [] h

pub words_first : (w : List ℕ) (b : ℕ) (rest : List ℕ) → 0 < length w → Letters w → is_blank b ≡ true → words (w ++ b ∷ rest) ≡ w ∷ words rest
unfolding words pieces full
words_first w b rest h l e = ap full (pieces_letters w [] (b ∷ rest) l) ∙ rw e (full_cons w (pieces [] rest) h)

-- What `word` finds, by std's `position`

fails : (p : ℕ → Bool) (xs : List ℕ) → position p xs ≡ None → (k : ℕ) → k < length xs → p (get_or xs k 0) ≡ false
fails p xs e k h = go (ltb (position_or_len p xs) (length xs)) refl e
  where
    go : (t : Bool) → ltb (position_or_len p xs) (length xs) ≡ t → cond t (Some (position_or_len p xs)) None ≡ None → p (get_or xs k 0) ≡ false
    go true f e = cc
    go false f e =
        let past : length xs ≤ position_or_len p xs = ltb-false (position_or_len p xs) (length xs) f in
        fails_before_first p xs k 0 (omega arith)

blanks_front : (xs : List ℕ) (k : ℕ) → k ≤ length xs → ((j : ℕ) → j < k → not (is_blank (get_or xs j 0)) ≡ false) → words xs ≡ words (drop k xs)
blanks_front xs zero h f = refl
blanks_front [] (suc k) h f = refl
blanks_front (b ∷ xs) (suc k) h f =
    let e : is_blank b ≡ true = go (is_blank b) (f 0 (omega arith)) in
    words_blank b xs e ∙ blanks_front xs k (omega arith) (λ j l. f (suc j) (omega arith))
  where
    go : (t : Bool) → not t ≡ false → t ≡ true
    go true e = refl
    go false e = sym e

letters_front : (xs : List ℕ) (k : ℕ) → k ≤ length xs → ((j : ℕ) → j < k → is_blank (get_or xs j 0) ≡ false) → Letters (take k xs)
letters_front xs zero h f = tt
letters_front [] (suc k) h f = let z : ⊥ = omega arith in absurd z
letters_front (b ∷ xs) (suc k) h f = (f 0 (omega arith), letters_front xs k (omega arith) (λ j l. f (suc j) (omega arith)))

pub no_letter : (xs : List ℕ) → position (λ b. not (is_blank b)) xs ≡ None → words xs ≡ []
no_letter xs e = blanks_front xs (length xs) (omega arith) (fails (λ b. not (is_blank b)) xs e) ∙ no_words xs (length xs) (omega arith)

-- a word from the front on: up to a blank, or to the end
up_to_blank : (xs : List ℕ) (n : ℕ) → is_blank (get_or xs 0 0) ≡ false → position is_blank xs ≡ Some n
    → (0 < n) × (n < length xs) × (words xs ≡ take n xs ∷ words (drop n xs))
up_to_blank xs n f e =
    let p = position-Some is_blank xs n 0 e in
    let rest : drop n xs ≡ get_or xs n 0 ∷ drop (suc n) xs = drop-cons xs n 0 p.0 in
    let some : 0 < n = more n p.1 in
    let long : 0 < length (take n xs) = rw (length-take-le n xs (omega arith)) some in (
      some,
      p.0,
      ap words (sym (take-append-drop n xs) ∙ ap (λ (l : List ℕ). take n xs ++ l) rest)
          ∙ words_first (take n xs) (get_or xs n 0) (drop (suc n) xs) long (letters_front xs n (omega arith) p.2) p.1
          ∙ ap (λ (l : List (List ℕ)). take n xs ∷ l) (sym (ap words rest ∙ words_blank (get_or xs n 0) (drop (suc n) xs) p.1)),
    )
  where
    more : (n : ℕ) → is_blank (get_or xs n 0) ≡ true → 0 < n
    more zero e = absurd (true≢false (sym e ∙ f))
    more (suc n) e = omega arith

up_to_end : (xs : List ℕ) → 0 < length xs → position is_blank xs ≡ None → words xs ≡ xs ∷ []
up_to_end xs h e = words_last xs h (rw (take_all (length xs) xs (omega arith)) at (letters_front xs (length xs) (omega arith) (fails is_blank xs e)))

pub record WordAt (line : List ℕ) (at start end : ℕ) : Type 0 where
  pub words_on : words (drop at line) ≡ slice start end line ∷ words (drop end line)
  pub after : start < end
  pub within : end ≤ length line

-- by the places that the code finds in what is lent of the line
pub no_word : (line rest : List ℕ) (at : ℕ) → rest ≡ take (length line - at) (drop at line) → None ≡ position (λ b. not (is_blank b)) rest
    → words (drop at line) ≡ []
no_word line rest at f e = ap words (sym (f ∙ between_to_end line at (length line) (omega arith))) ∙ no_letter rest (sym e)

-- the first letter: what stands from there on has the same words
from_letter : (line front : List ℕ) (at k : ℕ) → front ≡ drop at line → Some k ≡ position (λ b. not (is_blank b)) front
    → (at + k < length line) × (is_blank (get_or (drop (at + k) line) 0 0) ≡ false) × (words (drop at line) ≡ words (drop (at + k) line))
from_letter line front at k g e =
    let p = position-Some (λ b. not (is_blank b)) front k 0 (sym e) in
    let same : drop k front ≡ drop (at + k) line = ap (drop k) g ∙ drop-drop k at line in
    let first : get_or (drop k front) 0 0 ≡ get_or front k 0 = get_or-drop k front 0 0 ∙ ap (λ (n : ℕ). get_or front n 0) (add-zero k) in
    let long : length front ≡ length line - at = ap length g ∙ length-drop at line in
    (omega arith, rw (← same, first) (no_blank (is_blank (get_or front k 0)) p.1), ap words (sym g) ∙ blanks_front front k (omega arith) p.2 ∙ ap words same)
  where
    no_blank : (t : Bool) → not t ≡ true → t ≡ false
    no_blank true e = sym e
    no_blank false e = refl

module _ (line front rest : List ℕ) (at k : ℕ) (f : front ≡ take (length line - at) (drop at line))
    (r : rest ≡ take (length line - (at + k)) (drop (at + k) line))
    (e : Some k ≡ position (λ b. not (is_blank b)) front) where
  whole : rest ≡ drop (at + k) line
  whole = r ∙ between_to_end line (at + k) (length line) (omega arith)

  pub word_ended : (n : ℕ) → Some n ≡ position is_blank rest → WordAt line at (at + k) (at + k + n)
  word_ended n g =
      let s = from_letter line front at k (f ∙ between_to_end line at (length line) (omega arith)) e in
      let t = up_to_blank (drop (at + k) line) n s.1 (ap (position is_blank) (sym whole) ∙ sym g) in
      let long : length (drop (at + k) line) ≡ length line - (at + k) = length-drop (at + k) line in
      let m : at + k + n - (at + k) ≡ n = omega arith in
      let first : take n (drop (at + k) line) ≡ slice (at + k) (at + k + n) line =
      ap (λ (i : ℕ). take i (drop (at + k) line)) (sym m) ∙ part_slice (at + k) (at + k + n) line in
      record {
        words_on = s.2 ∙ t.2 ∙ ap₂ (λ (x y : List ℕ). x ∷ words y) first (drop-drop n (at + k) line);
        after = omega arith;
        within = omega arith;
      }

  pub word_last : None ≡ position is_blank rest → WordAt line at (at + k) (length line)
  word_last g =
      let s = from_letter line front at k (f ∙ between_to_end line at (length line) (omega arith)) e in
      let long : length (drop (at + k) line) ≡ length line - (at + k) = length-drop (at + k) line in
      let first : drop (at + k) line ≡ slice (at + k) (length line) line =
      sym (between_to_end line (at + k) (length line) (omega arith)) ∙ part_slice (at + k) (length line) line in
      let t = up_to_end (drop (at + k) line) (omega arith) (ap (position is_blank) (sym whole) ∙ sym g) in
      record {
        words_on = s.2 ∙ t ∙ ap₂ (λ (x : List ℕ) (y : List (List ℕ)). x ∷ y) first (sym (no_words line (length line) (omega arith)));
        after = s.0;
        within = omega arith;
      }
