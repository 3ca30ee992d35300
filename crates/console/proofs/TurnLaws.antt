-- A run into three words does one action at the most
use Prim.Native.Nat.{ℕ}
use mathlib.Core.Path.{◌≡◌, ap, ◌∙◌}
use mathlib.Core.List.{List, [], ◌∷◌, append-nil}
use native.Mathlib.Omega.{arith}
use lib.ListN.{length, get_or, take}
use Rattle.conversation.specs.Conversation.{conv_of}
use Rattle.started.specs.Standing.{lent_of}
use Rattle.console.specs.Moved.{words_in, conv_at, lent_at}
use Rattle.console.specs.declared.moved.Moved.{Moved}
use Rattle.calls.specs.Run.{Shown, left}
use Rattle.conversation.specs.Run.{shown_of}
use Rattle.conversation.specs.declared.run.Ran.{Ran}
use Rattle.calls.proofs.Theorems.{Placed}
use Rattle.console.proofs.AheadLaws.{placed_lent}
use Rattle.lines.specs.Listing.{action_text, lines_text}
use Rattle.console.specs.Turn.{ran_three, Turn}

three : (l : List ℕ) → length l ≡ 3 → lines_text (take 3 l) ≡ action_text (get_or l 0 0) (get_or l 1 0) (get_or l 2 0)
three [] h = absurd (omega arith)
three (a ∷ []) h = absurd (omega arith)
three (a ∷ b ∷ []) h = absurd (omega arith)
three (a ∷ b ∷ c ∷ l) h = append-nil (action_text a b c)

module _ (from : Moved) (rs : List ℕ) (r : Ran) (lent t : List ℕ) (same : lent_of r.to.place ≡ lent_of from.to.place)
    (e : shown_of r (words_in from.to lent) t ≡ ran_three from rs) where
  put_down : Placed (ran_three from rs) (0 ∷ 0 ∷ 0 ∷ []) 0
  put_down = placed_lent (lent_at from) (conv_at from) rs (0 ∷ 0 ∷ 0 ∷ []) 0

  at_same : r.at ≡ (ran_three from rs).tape.at
  at_same = ap (λ (s : Shown). s.tape.at) e

  text_same : t ≡ (ran_three from rs).tape.transcript
  text_same = ap (λ (s : Shown). s.tape.transcript) e

  there : conv_of r.to (words_in r.to lent) ≡ left (ran_three from rs)
  there = ap (λ (k : ℕ). conv_of r.to (take k lent)) same ∙ ap left e

  pub turned_none : {line : List ℕ} → line ≡ [] → r.at ≡ 0 → Turn from rs (record { stop = r.stop; to = r.to; words = lent }) line
  turned_none none h =
      record {
        stop = ap (λ (s : Shown). s.stop) e;
        to = there;
        text = rw (← at_same, h) none;
      }

  pub turned_one : {line : List ℕ} → (r.at ≡ 0 → ⊥) → line ≡ action_text (get_or t 0 0) (get_or t 1 0) (get_or t 2 0)
      → Turn from rs (record { stop = r.stop; to = r.to; words = lent }) line
  turned_one h text =
      let p : Placed (ran_three from rs) (0 ∷ 0 ∷ 0 ∷ []) 0 = put_down in
      let all : r.at ≡ 3 = omega (arith, at_same, p.place, p.within) in
      let long : length t ≡ 3 = ap length text_same ∙ p.same_length in
      record {
        stop = ap (λ (s : Shown). s.stop) e;
        to = there;
        text = rw (← at_same, all, ← text_same, three t long) text;
      }
