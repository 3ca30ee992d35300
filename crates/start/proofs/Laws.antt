-- A list begins: an empty one has ended, any other is a job
use Rattle.std.specs.Prelude.{Ok, Err}
use Prim.Native.Nat.{ℕ, suc, min, ◌≤◌}
use mathlib.Core.Path.{◌≡◌, refl, ap, sym, fun_ext, ◌∙◌}
use mathlib.Core.List.{List, [], ◌∷◌}
use native.Mathlib.Omega.{arith}
use lib.ListN.{length, take}
use Rattle.std.proofs.lemmas.List.{length-take}
use Rattle.hardware.specs.Block as blk
use Rattle.hardware.specs.Talk.{Talk, Res, end, and_then}
use Rattle.hardware.specs.declared.Port.{Port}
use Rattle.hardware.proofs.Laws.{then_assoc}
use Rattle.answers.specs.declared.Value.TheVariants as valuev
use Rattle.reference.specs.Mdio.{list_held, mdio_list}
use Rattle.reference.specs.Out.{Out}
use Rattle.operations.specs.Operations.{list_operation}
use Rattle.jobs.specs.Job.{zero_of, zeroed_list}
use Rattle.jobs.specs.List.{list_of, pairs_in}
use Rattle.access.proofs.ListLaws.{few, list_length}
use Rattle.after.specs.After.{after_list}

pairs_length : (ws : List ℕ) → length (pairs_in ws) ≡ length ws
pairs_length [] = refl
pairs_length (w ∷ ws) = ap suc (pairs_length ws)

none : (port : Port) (phy : ℕ) (pairs : List (ℕ × ℕ)) → length pairs ≡ 0 → end (Ok (valuev.List 0), []) ≡ list_operation port phy pairs
unfolding mdio_list
none port phy [] h = refl
none port phy (pair ∷ rest) h = absurd (omega (arith, h))

last : (n : ℕ) (p : Res (Unit {0}) × List ℕ) → after_list n (zero_of p.0) p.1 ≡ blk.or_stop (λ _. blk.return (valuev.List n)) p.0 p.1
last n (Ok _, vs) = refl
last n (Err e, vs) = refl

some : (port : Port) (phy : ℕ) (pairs : List (ℕ × ℕ)) (n : ℕ) → length pairs ≡ n → (n ≡ 0 → ⊥)
    → and_then (zeroed_list (list_held port phy pairs)) (λ p. after_list n p.0 p.1) ≡ list_operation port phy pairs
unfolding mdio_list
some port phy [] n h k = absurd (k (sym h))
some port phy (pair ∷ rest) n h k =
    then_assoc (list_held port phy (pair ∷ rest)) (λ p. end (zero_of p.0, p.1)) (λ p. after_list n p.0 p.1)
    ∙ ap (and_then (list_held port phy (pair ∷ rest))) (fun_ext (last n))
    ∙ ap (λ (m : ℕ). and_then (list_held port phy (pair ∷ rest)) (λ p. blk.or_stop (λ _. blk.return (valuev.List m)) p.0 p.1)) (sym h)

module _ (port : Port) (phy pairs : ℕ) (b : List ℕ) (long : length b ≡ 80) where
  count : length (pairs_in (take (min pairs 64) (list_of b))) ≡ min pairs 64
  count =
      pairs_length (take (min pairs 64) (list_of b))
      ∙ (let l = length-take (min pairs 64) (list_of b) in let k = list_length b long in omega (arith, l, k))

  same : list_operation port phy (pairs_in (take (min pairs 64) (list_of b))) ≡ list_operation port phy (pairs_in (take pairs (list_of b)))
  same = ap (λ (ws : List ℕ). list_operation port phy (pairs_in ws)) (few b pairs long)

  pub list_none : min pairs 64 ≡ 0 → end (Ok (valuev.List 0), []) ≡ list_operation port phy (pairs_in (take pairs (list_of b)))
  list_none h = none port phy (pairs_in (take (min pairs 64) (list_of b))) (count ∙ h) ∙ same

  pub list_some : {n : ℕ} → n ≡ min pairs 64 → (n ≡ 0 → ⊥)
      → and_then (zeroed_list (list_held port phy (pairs_in (take n (list_of b))))) (λ p. after_list n p.0 p.1)
      ≡ list_operation port phy (pairs_in (take pairs (list_of b)))
  list_some {n} is h =
      some port phy (pairs_in (take n (list_of b))) n (ap (λ (m : ℕ). length (pairs_in (take m (list_of b)))) is ∙ count ∙ sym is) h
      ∙ ap (λ (m : ℕ). list_operation port phy (pairs_in (take m (list_of b)))) is ∙ same
