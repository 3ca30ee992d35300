-- A turn of loading words
use Rattle.std.proofs.Common.{ℕ, ◌≡◌, Bool, true, false, List, ◌∷◌, drop, Option, Some, None, ap, ◌∙◌}
use Rattle.std.proofs.Math.Seq.{slice}
use Rattle.text.specs.Hex.{hex_part}
use Rattle.text.specs.Words.{words, found, Inside}
use Rattle.lines.proofs.Laws.{found_hex}
use Rattle.settings_lines.specs.Turn.{passed, unread, kept, load, load_on, load_word}

-- where a word was found
module _ (ws line : List ℕ) (at start end : ℕ) (r : Option (ℕ × ℕ)) (value : words (drop at line) ≡ found line r) (inside : Inside at line r)
    (e : r ≡ Some (start, end)) where
  line_words : words (drop at line) ≡ slice start end line ∷ words (drop end line)
  line_words = value ∙ ap (found line) e

  word_is : {x : Option ℕ} → hex_part line start end 8 8 ≡ x → load ws (words (drop at line)) ≡ load_word ws x (λ vs. load vs (words (drop end line)))
  unfolding load
  word_is {x} h =
      ap (load ws) line_words ∙ ap (λ (o : Option ℕ). load_word ws o (λ vs. load vs (words (drop end line)))) (found_hex at line r inside e 8 8 h)

  pub load_bad : hex_part line start end 8 8 ≡ None → load ws (words (drop at line)) ≡ (unread, ws)
  load_bad h = word_is h

  pub load_full : (w : ℕ) (vs : List ℕ) → hex_part line start end 8 8 ≡ Some w → kept ws w ≡ (false, vs) → load ws (words (drop at line)) ≡ (unread, vs)
  load_full w vs h k = word_is h ∙ ap (λ (o : Bool × List ℕ). load_on o (λ us. load us (words (drop end line)))) k

  pub load_more : (w : ℕ) (vs : List ℕ) → hex_part line start end 8 8 ≡ Some w → kept ws w ≡ (true, vs) → load ws (words (drop at line)) ≡ load vs (words (drop end line))
  load_more w vs h k = word_is h ∙ ap (λ (o : Bool × List ℕ). load_on o (λ us. load us (words (drop end line)))) k

pub load_none : (ws line : List ℕ) (at : ℕ) (r : Option (ℕ × ℕ)) → words (drop at line) ≡ found line r → r ≡ None → load ws (words (drop at line)) ≡ (passed, ws)
unfolding load
load_none ws line at r value e = ap (load ws) (value ∙ ap (found line) e)
