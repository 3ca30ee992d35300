-- The test of a whole store tells just what it is for a store not to be damaged; and falling versions end every chain
use Rattle.std.proofs.Common.{ℕ, zero, suc, ◌+◌, ◌-◌, ◌*◌, ◌%◌, ◌≡◌, ◌<◌, ◌≤◌, inl, inr, Bool, true, false, ◌&&◌, not, List, [], ◌∷◌, map, length, eqb, leb, ltb, refl, ap, sym, ◌∙◌, arith}
use Rattle.std.specs.List.{list_all, list_any}
use Rattle.std.proofs.lemmas.Bool.{cases_eq}
use borrow.Author.Tests.{eqb-true, eq-eqb, ne_eqb, leb-true, le-leb, ltb-true, lt-ltb, not-true, both_ways}
use Rattle.settings.specs.Records.{word, records, head, next, version, pause, veto, chain_from, chain}
use Rattle.settings.specs.Whole.{has, zeros, is_pause, is_good, fall_below, falls, chain_whole, apart, is_whole}
use Rattle.settings.specs.Undamaged.{IsChain, IsFalling, IsGood, IsWholeChain, IsWhole, AreWords, step, follow, FallsFrom}
use Rattle.settings.proofs.GoodLaws.{and_left, and_right, and_all, or_right}
use Rattle.settings.proofs.FallLaws.{chain_short}
use Rattle.settings.proofs.ApartLaws.{common, not_common}
use Rattle.settings.proofs.WholeLaws.{whole_short}
use Rattle.settings.proofs.ZeroLaws.{zeros_of, each_of}
use Rattle.settings.proofs.Parts.{parts, from_parts, good_in}

-- ---- a record
good_is : (s : List ℕ) (i : ℕ) → is_good s i ≡ true → IsGood s i
unfolding is_good
good_is s i h =
    let a = ltb i (records s) in
    let b = leb 1 (version s i) in
    let c = is_pause (pause s i) in
    let d = leb (veto s i) 1 in
    let e = zeros s (8 * i + 4) 4 in
    let four = and_left (a && b && c && d) e h in
    let three = and_left (a && b && c) d four in
    let two = and_left (a && b) c three in
    let range = and_right (a && b) c three in
    let low = leb-true 1 (version s i) (and_right a b two) in
    record {
      inside = ltb-true i (records s) (and_left a b two);
      version = λ z. omega arith;
      pause_low = leb-true 1 (pause s i) (and_left (leb 1 (pause s i)) (leb (pause s i) 100) range);
      pause_high = leb-true (pause s i) 100 (and_right (leb 1 (pause s i)) (leb (pause s i) 100) range);
      veto = leb-true (veto s i) 1 (and_right (a && b && c) d four);
      zeros = λ k l m. each k l m (and_right (a && b && c && d) e h);
    }
  where
    each : (k : ℕ) → 4 ≤ k → k < 8 → zeros s (8 * i + 4) 4 ≡ true → word s (8 * i + k) ≡ 0
    each k l m z = let e = each_of s (8 * i + 4) 4 z (k - 4) (omega arith) in let at : 8 * i + 4 + (k - 4) ≡ 8 * i + k = omega arith in rw at at e

good_if : (s : List ℕ) (i : ℕ) → IsGood s i → is_good s i ≡ true
unfolding is_good
good_if s i g =
    let i0 = g.inside in
    let v0 = g.version in
    let p0 = g.pause_low in
    let p1 = g.pause_high in
    let t0 = g.veto in
    let zero : zeros s (8 * i + 4) 4 ≡ true = zeros_of s (8 * i + 4) 4 (λ k m. let at : 8 * i + 4 + k ≡ 8 * i + (4 + k) = omega arith in rw at (g.zeros (4 + k) (omega arith) (omega arith))) in
    rw (
      lt-ltb i (records s) i0,
      le-leb 1 (version s i) (above_zero (version s i) v0),
      le-leb 1 (pause s i) p0,
      le-leb (pause s i) 100 p1,
      le-leb (veto s i) 1 t0,
      zero,
    )
    refl
  where
    above_zero : (n : ℕ) → (n ≡ 0 → ⊥) → 1 ≤ n
    above_zero zero d = absurd (d refl)
    above_zero (suc n) d = omega arith

-- ---- a chain
links_of : (s : List ℕ) (n i : ℕ) → length (chain_from n s i) < n → IsChain s i (chain_from n s i)
unfolding chain_from
links_of s zero i h = absurd (omega arith)
links_of s (suc n) zero h = refl
links_of s (suc n) (suc i) h = (refl, (λ e. omega arith), links_of s n (next s (suc i)) (omega arith))

chain_of : (s : List ℕ) (n i : ℕ) (is : List ℕ) → IsChain s i is → length is ≤ n → chain_from n s i ≡ is
unfolding chain_from
chain_of s zero i [] c h = refl
chain_of s zero i (j ∷ is) c h = absurd (omega arith)
chain_of s (suc n) zero [] c h = refl
chain_of s (suc n) (suc i) [] c h = absurd (let z : ⊥ = omega arith in z)
chain_of s (suc n) zero (j ∷ is) c h = absurd (c.1 (sym c.0))
chain_of s (suc n) (suc i) (j ∷ is) c h =
    let rest = chain_of s n (next s j) is c.2 (omega arith) in
    ap (λ (k : ℕ). k ∷ chain_from n s (next s k)) c.0 ∙ ap (λ (ks : List ℕ). j ∷ ks) rest

chain_no_zero : (s : List ℕ) (i : ℕ) (is : List ℕ) → IsChain s i is → has 0 is ≡ false
chain_no_zero s i [] c = refl
chain_no_zero s i (j ∷ is) c = rw (ne_eqb j 0 c.1) (chain_no_zero s (next s j) is c.2)

falling_of : (s : List ℕ) (v : ℕ) (is : List ℕ) → fall_below v (map (version s) is) ≡ true → IsFalling s is
unfolding fall_below
falling_of s v [] h = tt
falling_of s v (i ∷ []) h = tt
falling_of s v (i ∷ j ∷ js) h =
    let later = and_right (ltb (version s i) v) (fall_below (version s i) (map (version s) (j ∷ js))) h in
    (ltb-true (version s j) (version s i) (and_left (ltb (version s j) (version s i)) (fall_below (version s j) (map (version s) js)) later), falling_of s (version s i) (j ∷ js) later)

falls_if : (s : List ℕ) (i : ℕ) (is : List ℕ) (v : ℕ) → IsFalling s (i ∷ is) → version s i < v → fall_below v (map (version s) (i ∷ is)) ≡ true
unfolding fall_below
falls_if s i [] v f h = rw (lt-ltb (version s i) v h) refl
falls_if s i (j ∷ js) v f h = and_all (ltb (version s i) v) (fall_below (version s i) (map (version s) (j ∷ js))) (lt-ltb (version s i) v h) (falls_if s j js (version s i) f.1 f.0)

all_good : (s : List ℕ) (is : List ℕ) → ((i : ℕ) → has i is ≡ true → IsGood s i) → list_all (is_good s) is ≡ true
all_good s [] h = refl
all_good s (i ∷ is) h =
    and_all (is_good s i) (list_all (is_good s) is) (good_if s i (h i (rw (eq-eqb i i refl) refl))) (all_good s is (λ j e. h j (rw e (or_right (eqb i j)))))

whole_chain : (s : List ℕ) (lan : ℕ) → 8 ≤ length s → chain_whole s (chain s lan) ≡ true → IsWholeChain s lan
whole_chain s lan long h =
    let is = chain s lan in
    let good = and_left (list_all (is_good s) is) (falls (map (version s) is)) h in
    record {
      is = chain s lan;
      links = links_of s (records s) (head s lan) (whole_short s (head s lan) (omega arith) h);
      good = λ i e. good_is s i (good_in s (chain s lan) good i e);
      falls = falling_of s 4294967296 (chain s lan) (and_right (list_all (is_good s) is) (falls (map (version s) is)) h);
    }

record SameChain (s : List ℕ) (lan : ℕ) (is : List ℕ) : Type 0 where
  same : chain s lan ≡ is
  whole : chain_whole s (chain s lan) ≡ true

chain_if : (s : List ℕ) (lan : ℕ) → 8 ≤ length s → AreWords s → (w : IsWholeChain s lan) → SameChain s lan w.is
unfolding fall_below
chain_if s lan long words w =
    let short = chain_short s 4294967296 w.is (omega arith) (chain_no_zero s (head s lan) w.is w.links) good falling in
    let same = chain_of s (records s) (head s lan) w.is w.links (omega arith) in
    record { same = same; whole = ap (chain_whole s) same ∙ and_all (list_all (is_good s) w.is) (falls (map (version s) w.is)) good falling }
  where
    good : list_all (is_good s) w.is ≡ true
    good = all_good s w.is w.good

    falls_from : (is : List ℕ) → IsFalling s is → falls (map (version s) is) ≡ true
    falls_from [] f = refl
    falls_from (i ∷ is) f = falls_if s i is 4294967296 f (words (8 * i + 1))

    falling : falls (map (version s) w.is) ≡ true
    falling = falls_from w.is w.falls

-- ---- the store
-- a store that passes the test is not damaged
pub whole_is : (s : List ℕ) → is_whole s ≡ true → IsWhole s
unfolding whole_chain
whole_is s h =
    let p = parts s h in
    let a = eqb (length s % 8) 0 in
    let b = leb 8 (length s) in
    let z = and_right (a && b) (zeros s 2 6) p.form in
    record {
      multiple = eqb-true (length s % 8) 0 (and_left a b (and_left (a && b) (zeros s 2 6) p.form));
      some = p.long;
      zeros = λ k l m. each k l m z;
      first = whole_chain s 0 p.long p.first;
      second = whole_chain s 1 p.long p.second;
      apart = λ i e f. both_ways (has i (chain s 1)) (not_common (chain s 0) (chain s 1) (not-true (list_any (λ j. has j (chain s 1)) (chain s 0)) p.apart) i e) f;
    }
  where
    each : (k : ℕ) → 2 ≤ k → k < 8 → zeros s 2 6 ≡ true → word s k ≡ 0
    each k l m z = let e = each_of s 2 6 z (k - 2) (omega arith) in let at : 2 + (k - 2) ≡ k = omega arith in rw at at e

-- one that is not damaged passes it
pub whole_if : (s : List ℕ) → AreWords s → IsWhole s → is_whole s ≡ true
whole_if s words w =
    let long = w.some in
    let one = chain_if s 0 w.some words w.first in
    let two = chain_if s 1 w.some words w.second in
    let zero : zeros s 2 6 ≡ true = zeros_of s 2 6 (λ k m. w.zeros (2 + k) (omega arith) (omega arith)) in
    from_parts s record {
      form = and_all (eqb (length s % 8) 0 && leb 8 (length s)) (zeros s 2 6) (and_all (eqb (length s % 8) 0) (leb 8 (length s)) (eq-eqb (length s % 8) 0 w.multiple) (le-leb 8 (length s) long)) zero;
      long = long;
      first = one.whole;
      second = two.whole;
      apart = ap (λ (is : List ℕ). apart is (chain s 1)) one.same ∙ ap (apart w.first.is) two.same ∙ none (list_any (λ i. has i w.second.is) w.first.is) refl;
    }
  where
    none : (b : Bool) → list_any (λ i. has i w.second.is) w.first.is ≡ b → not b ≡ true
    none true e = let both = common w.first.is w.second.is e in absurd (w.apart both.j both.left both.right)
    none false e = refl

-- ---- links that fall
falls_on : (s : List ℕ) (i : ℕ) → FallsFrom s i → FallsFrom s (step s i)
falls_on s i f = λ n. f (suc n)

ends_below : (s : List ℕ) (b i : ℕ) → version s i < b → FallsFrom s i → (n : ℕ) × (follow s n i ≡ 0)
ends_below s zero i h f = absurd (omega arith)
ends_below s (suc b) i h f = elim (cases_eq i 0) [
  | inl z ↦ (0, z)
  | inr d ↦ elim (cases_eq (step s i) 0) [
    | inl z ↦ (1, z)
    | inr e ↦ let rest = ends_below s b (step s i) (let low = f 0 d e in omega arith) (falls_on s i f) in (suc rest.0, rest.1)
  ]
]

-- falling versions end every chain, in a store of any words
pub falling_ends : (s : List ℕ) (i : ℕ) → FallsFrom s i → (n : ℕ) × (follow s n i ≡ 0)
falling_ends s i f = ends_below s (suc (version s i)) i (omega arith) f
