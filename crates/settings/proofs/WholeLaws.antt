-- What the walks along both chains say of the store
use Rattle.std.proofs.Common.{ℕ, zero, suc, ◌%◌, ◌≡◌, ◌<◌, ◌≤◌, inl, inr, Bool, true, false, ◌&&◌, cond, List, map, length, eqb, ltb, leb, Option, Some, None, refl, ap, ◌∙◌, arith}
use borrow.Author.Tests.{lt-ltb, le-ltb, leb-true}
use Rattle.std.proofs.lemmas.Bool.{cases_lt}
use Rattle.std.specs.List.{list_all}
use Rattle.std.specs.Option.{option_or}
use Rattle.settings.specs.Records.{records, head, version, chain_from, chain, next}
use Rattle.settings.specs.Whole.{zeros, is_good, fall_below, falls, chain_whole, apart, has_form, is_whole}
use Rattle.settings.specs.Calls.{with_version}
use Rattle.settings.specs.Walk.{walked, seen, walk_on, last_or, walk_end, part, both, walks_of}
use Rattle.settings.specs.declared.walk.Walked.{Walked}
use Rattle.settings.specs.declared.walk.Both.{Both}
use Rattle.settings.proofs.GoodLaws.{and_left, and_right}
use Rattle.settings.proofs.FallLaws.{chain_short, no_zero}
use Rattle.settings.proofs.ApartLaws.{apart_is}

one_step : {X : Type 0} (g l a f t : Bool) (x : Option X) → cond (g && l) (cond (a && f && t) x None) None ≡ cond ((g && a) && (l && f) && t) x None
one_step true true a f t x = refl
one_step true false true f t x = refl
one_step true false false f t x = refl
one_step false l a f t x = refl

found_next : (o : Option ℕ) (b : Bool) (j : ℕ) (rest : Option ℕ) → option_or (option_or o (cond b (Some j) None)) rest ≡ option_or o (cond b (Some j) rest)
found_next (Some i) b j rest = refl
found_next None true j rest = refl
found_next None false j rest = refl

found_last : (o : Option ℕ) → option_or o None ≡ o
found_last (Some i) = refl
found_last None = refl

ltb_suc : (a b : ℕ) → ltb (suc a) (suc b) ≡ ltb a b
ltb_suc a b = elim (cases_lt a b) [ inl h ↦ rw (lt-ltb a b h, lt-ltb (suc a) (suc b) (omega arith)) refl | inr h ↦ rw (le-ltb a b h, le-ltb (suc a) (suc b) (omega arith)) refl ]

-- a whole chain is shorter than the store has records
pub whole_short : (s : List ℕ) (i : ℕ) → 0 < records s → chain_whole s (chain_from (records s) s i) ≡ true → length (chain_from (records s) s i) < records s
whole_short s i h e =
    let is = chain_from (records s) s i in
    let good = list_all (is_good s) is in
    let falling = falls (map (version s) is) in
    chain_short s 4294967296 is h (no_zero s (records s) i) (and_left good falling e) (and_right good falling e)

module _ (s : List ℕ) (v : ℕ) where
  walk_is : (n : ℕ) (w : Walked) (below i : ℕ)
      → walk_on n s v w below i
      ≡ cond (list_all (is_good s) (chain_from n s i) && fall_below below (map (version s) (chain_from n s i)) && ltb (length (chain_from n s i)) n)
      (Some (walked (last_or w.last (chain_from n s i)) (option_or w.found (with_version s v (chain_from n s i))))) None
  unfolding walk_on chain_from fall_below last_or
  walk_is zero w below i = refl
  walk_is (suc n) w below zero = rw (found_last w.found, lt-ltb 0 (suc n) (omega arith)) refl
  walk_is (suc n) w below (suc i) =
      let j = suc i in
      let rest = chain_from n s (next s j) in
      let found = seen (version s j) v j w.found in
      let more : ltb (suc (length rest)) (suc n) ≡ ltb (length rest) n = ltb_suc (length rest) n in
      ap (λ (o : Option Walked). cond (is_good s j && ltb (version s j) below) o None) (walk_is n (walked j found) (version s j) (next s j))
      ∙ one_step (is_good s j) (ltb (version s j) below) (list_all (is_good s) rest) (fall_below (version s j) (map (version s) rest)) (ltb (length rest) n) (Some (walked (last_or j rest) (option_or found (with_version s v rest))))
      ∙ ap (λ (o : Option ℕ). cond ((is_good s j && list_all (is_good s) rest) && (ltb (version s j) below && fall_below (version s j) (map (version s) rest)) && ltb (length rest) n) (Some (walked (last_or j rest) o)) None) (found_next w.found (eqb (version s j) v) j (with_version s v rest))
      ∙ rw more refl

  -- the walk along a lan's chain
  pub walk_chain : (i : ℕ) → 0 < records s → walk_on (records s) s v (walked 0 None) 4294967296 i ≡ cond (chain_whole s (chain_from (records s) s i)) (Some (walk_end s v (chain_from (records s) s i))) None
  walk_chain i h = walk_is (records s) (walked 0 None) 4294967296 i ∙ go (chain_whole s (chain_from (records s) s i)) refl
    where
      go : (b : Bool) → chain_whole s (chain_from (records s) s i) ≡ b
          → cond (chain_whole s (chain_from (records s) s i) && ltb (length (chain_from (records s) s i)) (records s)) (Some (walk_end s v (chain_from (records s) s i))) None
          ≡ cond (chain_whole s (chain_from (records s) s i)) (Some (walk_end s v (chain_from (records s) s i))) None
      go true e =
          rw (e, lt-ltb (length (chain_from (records s) s i)) (records s) (whole_short s i h e)) refl
      go false e = rw e refl

-- the walks along both chains, as the code joins them
abbrev pub joined : Option Walked → Option Walked → Option Both
joined None b = None
joined (Some a) None = None
joined (Some a) (Some b) = cond (part a b) (Some (both a b)) None

pub form_long : (s : List ℕ) → has_form s ≡ true → 8 ≤ length s
form_long s h = leb-true 8 (length s) (and_right (eqb (length s % 8) 0) (leb 8 (length s)) (and_left (eqb (length s % 8) 0 && leb 8 (length s)) (zeros s 2 6) h))

module _ (s : List ℕ) (v : ℕ) where
  pub walks_are : walks_of s v ≡ cond (has_form s) (joined (walk_on (records s) s v (walked 0 None) 4294967296 (head s 0)) (walk_on (records s) s v (walked 0 None) 4294967296 (head s 1))) None
  unfolding is_whole
  walks_are = go (has_form s) refl
    where
      two : (f g : Bool) → 8 ≤ length s → chain_whole s (chain s 0) ≡ f → chain_whole s (chain s 1) ≡ g
          → cond (f && g && apart (chain s 0) (chain s 1)) (Some (both (walk_end s v (chain s 0)) (walk_end s v (chain s 1)))) None
          ≡ joined (cond f (Some (walk_end s v (chain s 0))) None) (cond g (Some (walk_end s v (chain s 1))) None)
      two false g long e1 e2 = refl
      two true false long e1 e2 = refl
      two true true long e1 e2 =
          let short0 = whole_short s (head s 0) (omega arith) e1 in
          let short1 = whole_short s (head s 1) (omega arith) e2 in
          rw (apart_is s (records s) (head s 0) (head s 1) short0 short1 (no_zero s (records s) (head s 0))) refl

      go : (b : Bool) → has_form s ≡ b → cond (has_form s && chain_whole s (chain s 0) && chain_whole s (chain s 1) && apart (chain s 0) (chain s 1)) (Some (both (walk_end s v (chain s 0)) (walk_end s v (chain s 1)))) None
          ≡ cond (has_form s) (joined (walk_on (records s) s v (walked 0 None) 4294967296 (head s 0)) (walk_on (records s) s v (walked 0 None) 4294967296 (head s 1))) None
      go true e =
          let long = form_long s e in
          rw (e, walk_chain s v (head s 0) (omega arith), walk_chain s v (head s 1) (omega arith)) (two (chain_whole s (chain s 0)) (chain_whole s (chain s 1)) long refl refl)
      go false e = rw e refl
