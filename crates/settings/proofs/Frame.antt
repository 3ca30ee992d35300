-- What a record and a chain say, where their words are the same
use Rattle.std.proofs.Common.{ℕ, zero, suc, ◌+◌, ◌*◌, ◌≡◌, ◌<◌, Bool, true, false, ◌||◌, List, [], ◌∷◌, map, length, get_or, take, drop, eqb, min, refl, ap, ◌∙◌, arith}
use Rattle.std.specs.List.{list_all}
use Rattle.std.proofs.lemmas.List.{ext_get_or, get_or-take, get_or-drop, length-take, length-drop}
use borrow.Author.Tests.{eq-eqb}
use Rattle.settings.specs.Records.{word, next, version, setting, chain_from}
use Rattle.settings.specs.Whole.{has, zeros, is_good}
use Rattle.settings.specs.Calls.{with_version}

-- the words of a record
abbrev pub SameRecord : List ℕ → List ℕ → ℕ → Type 0
SameRecord s t j = (k : ℕ) → k < 8 → word t (8 * j + k) ≡ word s (8 * j + k)

module _ (s t : List ℕ) (long : length t ≡ length s) where
  part_same : (at n : ℕ) → ((k : ℕ) → k < n → word t (at + k) ≡ word s (at + k)) → take n (drop at t) ≡ take n (drop at s)
  part_same at n h = ext_get_or 0 (take n (drop at t)) (take n (drop at s)) same_length each
    where
      same_length : length (take n (drop at t)) ≡ length (take n (drop at s))
      same_length = simp (length-take, length-drop, long)

      each : (k : ℕ) → k < length (take n (drop at t)) → get_or (take n (drop at t)) k 0 ≡ get_or (take n (drop at s)) k 0
      each k f =
          let few : length (take n (drop at t)) ≡ min n (length (drop at t)) = length-take n (drop at t) in
          let small : k < n = omega arith in
          rw (get_or-take n (drop at t) k 0 small, get_or-take n (drop at s) k 0 small, get_or-drop at t k 0, get_or-drop at s k 0) (h k small)

  pub zeros_same : (at n : ℕ) → ((k : ℕ) → k < n → word t (at + k) ≡ word s (at + k)) → zeros t at n ≡ zeros s at n
  zeros_same at n h = ap (list_all (λ w. eqb w 0)) (part_same at n h)

  pub next_same : (j : ℕ) → SameRecord s t j → next t j ≡ next s j
  next_same j h = let at : 8 * j + 0 ≡ 8 * j = omega arith in let e = h 0 (omega arith) in rw at at e

  pub version_same : (j : ℕ) → SameRecord s t j → version t j ≡ version s j
  version_same j h = h 1 (omega arith)

  pub setting_same : (j : ℕ) → SameRecord s t j → setting t j ≡ setting s j
  setting_same j h = rw (h 1 (omega arith), h 2 (omega arith), h 3 (omega arith)) refl

  pub good_same : (j : ℕ) → SameRecord s t j → is_good t j ≡ is_good s j
  unfolding is_good
  good_same j h =
      let rest : zeros t (8 * j + 4) 4 ≡ zeros s (8 * j + 4) 4 = zeros_same (8 * j + 4) 4 (λ k f. later k f) in
      rw (h 1 (omega arith), h 2 (omega arith), h 3 (omega arith), rest, long) refl
    where
      later : (k : ℕ) → k < 4 → word t (8 * j + 4 + k) ≡ word s (8 * j + 4 + k)
      later k f = let at : 8 * j + 4 + k ≡ 8 * j + (4 + k) = omega arith in rw at (h (4 + k) (omega arith))

  -- along a chain all of whose records are the same
  abbrev pub SameAll : List ℕ → Type 0
  SameAll is = (j : ℕ) → has j is ≡ true → SameRecord s t j

  pub rest_same : (i : ℕ) (is : List ℕ) → SameAll (i ∷ is) → SameAll is
  rest_same i is h = λ j e. h j (go (eqb i j) e)
    where
      go : {e : Bool} (b : Bool) → e ≡ true → b || e ≡ true
      go true f = refl
      go false f = f

  first_same : (i : ℕ) (is : List ℕ) → SameAll (i ∷ is) → SameRecord s t i
  first_same i is h = h i (rw (eq-eqb i i refl) refl)

  pub goods_same : (is : List ℕ) → SameAll is → list_all (is_good t) is ≡ list_all (is_good s) is
  goods_same [] h = refl
  goods_same (i ∷ is) h = rw (good_same i (first_same i is h), goods_same is (rest_same i is h)) refl

  pub versions_same : (is : List ℕ) → SameAll is → map (version t) is ≡ map (version s) is
  versions_same [] h = refl
  versions_same (i ∷ is) h = rw (version_same i (first_same i is h), versions_same is (rest_same i is h)) refl

  pub found_same : (v : ℕ) (is : List ℕ) → SameAll is → with_version t v is ≡ with_version s v is
  found_same v [] h = refl
  found_same v (i ∷ is) h = rw (version_same i (first_same i is h), found_same v is (rest_same i is h)) refl

  pub chain_same : (n i : ℕ) → SameAll (chain_from n s i) → chain_from n t i ≡ chain_from n s i
  unfolding chain_from
  chain_same zero i h = refl
  chain_same (suc n) zero h = refl
  chain_same (suc n) (suc i) h =
      let there = first_same (suc i) (chain_from n s (next s (suc i))) h in
      let rest = chain_same n (next s (suc i)) (rest_same (suc i) (chain_from n s (next s (suc i))) h) in
      ap (λ (j : ℕ). suc i ∷ chain_from n t j) (next_same (suc i) there) ∙ ap (λ (is : List ℕ). suc i ∷ is) rest
