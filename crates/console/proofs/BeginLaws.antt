-- A conversation that is begun is lent the words with which it was begun: all of a long command's, else none
use Rattle.hardware.specs.Talk.{Res, pick}
use Rattle.std.proofs.Common.{◌≡◌, ℕ, ◌≤◌, Bool, true, false, ltb, List, ◌++◌, length, take, drop, replicate, Ok, Err, refl, sym, ap, ◌∙◌, ltb-true, eq-eqb, take_all, take_at, subst, arith}
use Rattle.hardware.proofs.Refusal.{taken}
use Rattle.hardware.specs.declared.Port.{Port}
use Rattle.operations.specs.Request.{request, refused}
use Rattle.operations.specs.declared.Operation.{Operation}
use Rattle.operations.proofs.Words.{long_words}
use Rattle.calls.specs.Conversation.{lends, to_lend, begun}
use Rattle.conversation.specs.Conversation.{conv_of, is_lent}
use Rattle.conversation.specs.declared.conversation.Conversation as code
use Rattle.started.specs.Standing.{lent_of}
use Rattle.console.specs.Moved.{first_448, words_in}

-- none of the words, or all
data Lends (n : ℕ) (ws : List ℕ) : Type 0 where
  none : n ≡ 0 → Lends n ws
  all : n ≡ length ws → length ws ≤ 448 → Lends n ws

lends_some : (port : Port) (what : Operation) (ws : List ℕ) → Lends (to_lend port what ws) ws
lends_some port what ws = go (refused port what ws) refl
  where
    n : ℕ
    n = (request port what ws).words

    some : n ≤ 448 → (b : Bool) → ltb 16 n ≡ b → Lends (pick b n 0) ws
    some few true e = let many : n ≡ length ws = (long_words port what ws (ltb-true 16 n e)).1 in all many (subst (λ (k : ℕ). k ≤ 448) many few)
    some few false e = none refl

    go : (r : Res (Unit {0})) → refused port what ws ≡ r → Lends (lends r n) ws
    go (Err e) is = none refl
    go (Ok u) is = some (taken (request port what ws) is).words (ltb 16 n) refl

module _ (port : Port) (what : Operation) (ws : List ℕ) (c : code.Conversation) (is : lent_of c.place ≡ to_lend port what ws) where
  all_in : length ws ≤ 448 → take (length ws) (first_448 ws) ≡ ws
  all_in few = go (ltb (length ws) 448)
    where
      go : (b : Bool) → take (length ws) (pick b (ws ++ drop (length ws) (replicate 448 0)) (take 448 ws)) ≡ ws
      go true = take_at ws (drop (length ws) (replicate 448 0)) (length ws) refl
      go false = ap (take (length ws)) (take_all 448 ws few) ∙ take_all (length ws) ws (omega arith)

  pub begun_in : conv_of c ws ≡ begun port what ws
      → (lent_of c.place ≡ 0 → (l : List ℕ) → conv_of c l ≡ begun port what ws)
      → conv_of c (words_in c (first_448 ws)) ≡ begun port what ws
  begun_in b kept = go (lends_some port what ws)
    where
      go : Lends (to_lend port what ws) ws → conv_of c (words_in c (first_448 ws)) ≡ begun port what ws
      go (none e) = kept (is ∙ e) (words_in c (first_448 ws))
      go (all e few) = ap (λ (k : ℕ). conv_of c (take k (first_448 ws))) (is ∙ e) ∙ ap (conv_of c) (all_in few) ∙ b

  pub lent_in : is_lent c (words_in c (first_448 ws)) ≡ true
  lent_in = go (lends_some port what ws)
    where
      go : Lends (to_lend port what ws) ws → is_lent c (words_in c (first_448 ws)) ≡ true
      go (none e) = eq-eqb _ _ (ap (λ (k : ℕ). length (take k (first_448 ws))) (is ∙ e) ∙ sym (is ∙ e))
      go (all e few) = eq-eqb _ _ (ap (λ (k : ℕ). length (take k (first_448 ws))) (is ∙ e) ∙ ap length (all_in few) ∙ sym (is ∙ e))
