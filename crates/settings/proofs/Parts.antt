-- What a whole store is, part by part
use Rattle.std.proofs.Common.{ℕ, zero, suc, ◌≡◌, ◌<◌, ◌≤◌, Bool, true, false, ◌&&◌, ◌||◌, cond, List, [], ◌∷◌, map, length, eqb, Some, min, ◌-◌, refl, arith}
use borrow.Author.Tests.{eqb-true, eq-eqb}
use Rattle.std.specs.List.{list_all}
use Rattle.settings.specs.Records.{records, version, chain}
use Rattle.settings.specs.Whole.{has, is_good, falls, chain_whole, apart, has_form, is_whole}
use Rattle.settings.specs.Calls.{with_version, is_free, free}
use Rattle.settings.proofs.FirstLaws.{first_within}
use Rattle.settings.proofs.GoodLaws.{and_left, and_right, and_all, or_right}
use Rattle.settings.proofs.WholeLaws.{form_long}

pub record Whole (s : List ℕ) : Type 0 where
  pub form : has_form s ≡ true
  pub long : 8 ≤ length s
  pub first : chain_whole s (chain s 0) ≡ true
  pub second : chain_whole s (chain s 1) ≡ true
  pub apart : apart (chain s 0) (chain s 1) ≡ true

pub parts : (s : List ℕ) → is_whole s ≡ true → Whole s
unfolding is_whole
parts s h =
    let a = has_form s in
    let b = chain_whole s (chain s 0) in
    let c = chain_whole s (chain s 1) in
    let three = and_left (a && b && c) (apart (chain s 0) (chain s 1)) h in
    let two = and_left (a && b) c three in
    record {
      form = and_left a b two;
      long = form_long s (and_left a b two);
      first = and_right a b two;
      second = and_right (a && b) c three;
      apart = and_right (a && b && c) (apart (chain s 0) (chain s 1)) h;
    }

pub from_parts : (s : List ℕ) → Whole s → is_whole s ≡ true
unfolding is_whole
from_parts s w =
    let a = has_form s in
    let b = chain_whole s (chain s 0) in
    let c = chain_whole s (chain s 1) in
    and_all (a && b && c) (apart (chain s 0) (chain s 1)) (and_all (a && b) c (and_all a b w.form w.first) w.second) w.apart

pub one_chain : (s : List ℕ) (lan : ℕ) → is_whole s ≡ true → lan ≤ 1 → chain_whole s (chain s lan) ≡ true
one_chain s zero h l = let p = parts s h in p.first
one_chain s (suc zero) h l = let p = parts s h in p.second
one_chain s (suc (suc lan)) h l = absurd (omega arith)

pub good_in : (s : List ℕ) (is : List ℕ) → list_all (is_good s) is ≡ true → (i : ℕ) → has i is ≡ true → is_good s i ≡ true
good_in s [] h i e = absurd (let z : ⊥ = cc in z)
good_in s (j ∷ is) h i e = go (eqb j i) refl e (good_in s is (and_right (is_good s j) (list_all (is_good s) is) h) i)
  where
    go : (b : Bool) → eqb j i ≡ b → b || has i is ≡ true → (has i is ≡ true → is_good s i ≡ true) → is_good s i ≡ true
    go true f g on = let same = eqb-true j i f in rw (← same) (and_left (is_good s j) (list_all (is_good s) is) h)
    go false f g on = on g

pub chain_good : (s : List ℕ) (lan : ℕ) → is_whole s ≡ true → lan ≤ 1 → list_all (is_good s) (chain s lan) ≡ true
chain_good s lan h l = and_left (list_all (is_good s) (chain s lan)) (falls (map (version s) (chain s lan))) (one_chain s lan h l)

-- a record that was found
pub found_in : (s : List ℕ) (v : ℕ) (is : List ℕ) {i : ℕ} → with_version s v is ≡ Some i → (has i is ≡ true) × (version s i ≡ v)
found_in s v [] {i} h = absurd (let z : ⊥ = cc in z)
found_in s v (j ∷ is) {i} h = go (eqb (version s j) v) refl h (found_in s v is {i = i})
  where
    go : (b : Bool) → eqb (version s j) v ≡ b → cond b (Some j) (with_version s v is) ≡ Some i → (with_version s v is ≡ Some i → (has i is ≡ true) × (version s i ≡ v))
        → (eqb j i || has i is ≡ true) × (version s i ≡ v)
    go true e f on = let same : j ≡ i = cc in (rw (eq-eqb j i same) refl, rw (← same) (eqb-true (version s j) v e))
    go false e f on = let rest = on f in (rw rest.0 (or_right (eqb j i)), rest.1)

-- the first free record
pub free_inside : (s : List ℕ) {i : ℕ} → free s ≡ Some i → (0 < i) × (i < records s) × (is_free s i ≡ true)
unfolding free
free_inside s {i} h =
    let w = first_within (is_free s) 1 (min (records s) 4294967296 - 1) {j = i} h in
    (omega arith, omega arith, w.passes)
