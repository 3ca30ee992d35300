-- When a store is full
use Rattle.std.proofs.Common.{ℕ, zero, suc, ◌-◌, ◌≡◌, ◌<◌, ◌≤◌, ◌⊎◌, ◌↔◌, inl, inr, Bool, true, false, ◌&&◌, not, cond, List, map, min, eqb, ltb, Option, Some, None, Err, refl, ap, sym, ◌∙◌, arith}
use Rattle.std.specs.List.{list_all}
use Rattle.std.proofs.lemmas.Bool.{cases_eq}
use borrow.Author.Tests.{eqb-true, ltb-false, le-ltb}
use Rattle.settings.specs.Records.{records, head, next, version, chain_from, chain}
use Rattle.settings.specs.Whole.{has, is_pause, is_good, fall_below, falls, is_whole}
use Rattle.settings.specs.Calls.{is_free, first, free, above, next_version, put_at, store}
use Rattle.settings.specs.Past.{NoneFree, LastUsed}
use Rattle.settings.specs.declared.fault.Fault.TheVariants.{Full}
use Rattle.settings.proofs.GoodLaws.{and_right, in_one}
use Rattle.settings.proofs.ChainLaws.{chain_end, chain_next}
use Rattle.settings.proofs.FirstLaws.{first_within, none_first}
use Rattle.settings.proofs.FallLaws.{or_cases, lower}
use Rattle.settings.proofs.Parts.{parts, one_chain}
use Rattle.settings.proofs.Theorems.{head_has}

module _ (s : List ℕ) where
  none_free : free s ≡ None → NoneFree s
  unfolding free
  none_free h = λ j a b c. in_one (has j (chain s 0)) (has j (chain s 1)) (none_first (is_free s) 1 (min (records s) 4294967296 - 1) h j a (omega arith))

  free_none : NoneFree s → free s ≡ None
  unfolding free
  free_none n = go (first (is_free s) 1 (min (records s) 4294967296 - 1)) refl
    where
      clash : (a b : Bool) → not a && not b ≡ true → (a ≡ true) ⊎ (b ≡ true) → ⊥
      clash true b e f = cc
      clash false true e f = cc
      clash false false e (inl f) = cc
      clash false false e (inr f) = cc

      go : (o : Option ℕ) → first (is_free s) 1 (min (records s) 4294967296 - 1) ≡ o → first (is_free s) 1 (min (records s) 4294967296 - 1) ≡ None
      go None e = e
      go (Some i) e =
          let w = first_within (is_free s) 1 (min (records s) 4294967296 - 1) {j = i} e in
          absurd (clash (has i (chain s 0)) (has i (chain s 1)) w.passes (n i w.low (omega arith) (omega arith)))

  module _ (lan : ℕ) (l : lan ≤ 1) (w : is_whole s ≡ true) where
    falling : falls (map (version s) (chain s lan)) ≡ true
    falling = and_right (list_all (is_good s) (chain s lan)) (falls (map (version s) (chain s lan))) (one_chain s lan w l)

    long : 0 < records s
    long = let p = parts s w in let n = p.long in omega arith

    -- the head's version is the highest of its chain
    head_high : (i : ℕ) → has i (chain s lan) ≡ true → (head s lan ≡ 0 → ⊥) × (version s i ≤ version s (head s lan))
    unfolding fall_below
    head_high i h = go (records s) refl
      where
        go : (n : ℕ) → records s ≡ n → (head s lan ≡ 0 → ⊥) × (version s i ≤ version s (head s lan))
        go zero e = absurd (let a = long in omega arith)
        go (suc n) e = elim (cases_eq (head s lan) 0) [
          | inl z ↦ absurd (let empty = ap (has i) (chain_end s (records s) (head s lan) z) in let y : true ≡ false = sym h ∙ empty in let x : ⊥ = cc in x)
          | inr d ↦ (d, high d)
        ]
          where
            high : (head s lan ≡ 0 → ⊥) → version s i ≤ version s (head s lan)
            high d =
                let rest = chain_from n s (next s (head s lan)) in
                let linked = chain_next s (records s) n (head s lan) e d in
                let all = ap (λ (is : List ℕ). falls (map (version s) is)) (sym linked) ∙ falling in
                elim (or_cases (eqb (head s lan) i) (has i rest) (ap (has i) (sym linked) ∙ h)) [
                  | inl f ↦ let same = ap (version s) (eqb-true (head s lan) i f) in omega arith
                  | inr f ↦ let low = lower s (version s (head s lan)) rest (and_right (ltb (version s (head s lan)) 4294967296) (fall_below (version s (head s lan)) (map (version s) rest)) all) i f in omega arith
                ]

    last_used : next_version s lan ≡ None → LastUsed s lan
    last_used h = go (ltb (above s (head s lan)) 4294967296) refl h
      where
        some : (k : ℕ) → head s lan ≡ k → 4294967296 ≤ above s k → LastUsed s lan
        some zero e f = absurd (omega arith)
        some (suc k) e f =
            let d : head s lan ≡ 0 → ⊥ = λ z. omega arith in
            let there = head_has s lan long d in
            let small = lower s 4294967296 (chain s lan) falling (head s lan) there in
            let same : version s (head s lan) ≡ version s (suc k) = ap (version s) e in
            record { i = head s lan; there = there; last = omega arith }

        go : (b : Bool) → ltb (above s (head s lan)) 4294967296 ≡ b → cond b (Some (above s (head s lan))) None ≡ None → LastUsed s lan
        go true e f = absurd (let z : ⊥ = cc in z)
        go false e f = some (head s lan) refl (ltb-false (above s (head s lan)) 4294967296 e)

    none_above : LastUsed s lan → next_version s lan ≡ None
    none_above u = rw (le-ltb (above s (head s lan)) 4294967296 (high (head s lan) refl)) refl
      where
        high : (k : ℕ) → head s lan ≡ k → 4294967296 ≤ above s k
        high zero e = let top = head_high u.i u.there in absurd (top.0 e)
        high (suc k) e =
            let top = head_high u.i u.there in
            let most = top.1 in
            let last = u.last in
            let same : version s (head s lan) ≡ version s (suc k) = ap (version s) e in
            omega arith

-- a whole store is full just where no free record is left, or the last version is used on that lan
pub full_just_when : (s : List ℕ) (lan pause : ℕ) (veto : Bool) → lan ≤ 1 → is_pause pause ≡ true → is_whole s ≡ true
    → ((store s lan pause veto).0 ≡ Err Full) ↔ (NoneFree s ⊎ LastUsed s lan)
unfolding store
full_just_when s lan pause veto l p w = rw (le-ltb 1 lan l, p, w) (tells, if_full)
  where
    tells : (put_at s lan pause veto (next_version s lan) (free s)).0 ≡ Err Full → NoneFree s ⊎ LastUsed s lan
    tells h = go (next_version s lan) (free s) refl refl h
      where
        go : (v i : Option ℕ) → next_version s lan ≡ v → free s ≡ i → (put_at s lan pause veto v i).0 ≡ Err Full → NoneFree s ⊎ LastUsed s lan
        go None i e f g = inr (last_used s lan l w e)
        go (Some v) None e f g = inl (none_free s f)
        go (Some v) (Some i) e f g = absurd (let z : ⊥ = cc in z)

    if_full : NoneFree s ⊎ LastUsed s lan → (put_at s lan pause veto (next_version s lan) (free s)).0 ≡ Err Full
    if_full (inl n) = rw (free_none s n) (no_place (next_version s lan))
      where
        no_place : (v : Option ℕ) → (put_at s lan pause veto v None).0 ≡ Err Full
        no_place None = refl
        no_place (Some v) = refl
    if_full (inr u) = rw (none_above s lan l w u) refl
