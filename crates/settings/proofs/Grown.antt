-- A whole store behind a store that was done: one more record before the others of its lan, and all else as it was
use Rattle.std.proofs.Common.{ℕ, zero, suc, ◌+◌, ◌*◌, ◌/◌, ◌≡◌, ◌<◌, ◌≤◌, ◌⊎◌, inl, inr, Bool, true, false, ◌&&◌, not, cond, List, [], ◌∷◌, map, length, eqb, leb, ltb, Some, refl, ap, sym, subst, ◌∙◌, arith}
use Rattle.std.specs.List.{list_all, list_any}
use Rattle.std.proofs.lemmas.Bool.{cases_eq, cases_lt}
use borrow.Author.Tests.{eqb-false, eq-eqb, ne_eqb, lt-ltb, le-leb, not-true}
use Rattle.settings.specs.Records as Records
use Rattle.settings.specs.Records.{word, records, head, next, version, setting, chain_from, chain}
use Rattle.settings.specs.Whole.{has, zeros, is_pause, is_good, fall_below, falls, chain_whole, apart, has_form, is_whole}
use Rattle.settings.specs.Calls.{with_version, is_free, above, new_record, put}
use Rattle.settings.proofs.GoodLaws.{and_left, and_right, and_all}
use Rattle.settings.proofs.ChainLaws.{chain_end, chain_next}
use Rattle.settings.proofs.FallLaws.{lower, no_zero, or_none}
use Rattle.settings.proofs.WholeLaws.{whole_short}
use Rattle.settings.proofs.Parts.{parts, from_parts, one_chain, chain_good, found_in}
use Rattle.settings.proofs.ZeroLaws.{zeros_of}
use Rattle.settings.proofs.PutWords.{put_length, put_other, put_head, put_in}
use Rattle.settings.proofs.Frame.{SameRecord, SameAll, zeros_same, goods_same, versions_same, found_same, chain_same}

-- a chain that is no longer than n is whole with n
chain_less : (s : List ℕ) (n m i : ℕ) → n ≤ m → length (chain_from m s i) ≤ n → chain_from n s i ≡ chain_from m s i
unfolding chain_from
chain_less s zero zero i h k = refl
chain_less s zero (suc m) zero h k = refl
chain_less s zero (suc m) (suc i) h k = absurd (omega arith)
chain_less s (suc n) zero i h k = absurd (omega arith)
chain_less s (suc n) (suc m) zero h k = refl
chain_less s (suc n) (suc m) (suc i) h k = ap (λ (is : List ℕ). suc i ∷ is) (chain_less s n m (next s (suc i)) (omega arith) (omega arith))

-- what is known when a record is put
pub record Putting (s : List ℕ) (lan i v pause : ℕ) : Type 0 where
  pub whole : is_whole s ≡ true
  pub port : lan ≤ 1
  pub above0 : 0 < i
  pub inside : i < records s
  pub free : is_free s i ≡ true
  pub range : is_pause pause ≡ true
  pub next : v ≡ above s (head s lan)
  pub small : v < 4294967296

pub other_lan : ℕ → ℕ
other_lan zero = 1
other_lan (suc n) = 0

module _ (s : List ℕ) (lan i v pause : ℕ) (veto : Bool) (p : Putting s lan i v pause) where
  long : 8 ≤ length s
  long = let w = parts s p.whole in w.long

  -- every other record above 0 has its words
  pub record_same : (j : ℕ) → (j ≡ 0 → ⊥) → (j ≡ i → ⊥) → SameRecord s (put s lan i v pause veto) j
  record_same j z d = λ k h. put_other s lan i v pause veto (8 * j + k) (λ e. let a = p.port in omega arith) (apart_words k h)
    where
      apart_words : (k : ℕ) → k < 8 → (8 * j + k < 8 * i) ⊎ (8 * i + 8 ≤ 8 * j + k)
      apart_words k h = elim (cases_lt j i) [ inl l ↦ inl (omega arith) | inr l ↦ elim (cases_lt i j) [ inl m ↦ inr (omega arith) | inr m ↦ absurd (d (omega arith)) ] ]

  pub all_same : (is : List ℕ) → has 0 is ≡ false → has i is ≡ false → SameAll s (put s lan i v pause veto) (put_length s lan i v pause veto) is
  all_same is z d = λ j e. record_same j (λ f. clash j 0 f e z) (λ f. clash j i f e d)
    where
      clash : (j k : ℕ) → j ≡ k → has j is ≡ true → has k is ≡ false → ⊥
      clash j k f e g = let there : has k is ≡ true = rw (← f) e in cc

  pub not_in : (l : ℕ) → l ≤ 1 → has i (chain s l) ≡ false
  not_in zero h = not-true (has i (chain s 0)) (and_left (not (has i (chain s 0))) (not (has i (chain s 1))) p.free)
  not_in (suc zero) h = not-true (has i (chain s 1)) (and_right (not (has i (chain s 0))) (not (has i (chain s 1))) p.free)
  not_in (suc (suc l)) h = absurd (omega arith)

  pub chain_all_same : (l : ℕ) → l ≤ 1 → SameAll s (put s lan i v pause veto) (put_length s lan i v pause veto) (chain s l)
  chain_all_same l h = all_same (chain s l) (no_zero s (records s) (head s l)) (not_in l h)

  records_same : records (put s lan i v pause veto) ≡ records s
  records_same = ap (λ n. n / 8) (put_length s lan i v pause veto)

  -- the other lan's chain
  pub other_chain : (l : ℕ) → l ≤ 1 → (l ≡ lan → ⊥) → chain (put s lan i v pause veto) l ≡ chain s l
  other_chain l h d =
      let a = p.above0 in
      let same_head : head (put s lan i v pause veto) l ≡ head s l = put_other s lan i v pause veto l d (inl (omega arith)) in
      rw (records_same, same_head) (chain_same s (put s lan i v pause veto) (put_length s lan i v pause veto) (records s) (head s l) (chain_all_same l h))

  -- its own chain: one more record before the others
  pub own_chain : chain (put s lan i v pause veto) lan ≡ i ∷ chain s lan
  own_chain = go (records s) refl
    where
      go : (n : ℕ) → records s ≡ n → chain (put s lan i v pause veto) lan ≡ i ∷ chain s lan
      go zero e = absurd (let a = p.inside in omega arith)
      go (suc n) e =
          let a = p.above0 in
          let b = long in
          let c = p.port in
          let t = put s lan i v pause veto in
          let new_head : head t lan ≡ i = put_head s lan i v pause veto (omega arith) in
          let short = whole_short s (head s lan) (omega arith) (one_chain s lan p.whole p.port) in
          let linked : next t i ≡ head s lan = let at : 8 * i + 0 ≡ 8 * i = omega arith in let w = put_in s lan i v pause veto p.port p.above0 p.inside 0 (omega arith) in rw at at w in
          let less : chain_from n s (head s lan) ≡ chain s lan = chain_less s n (records s) (head s lan) (omega arith) (omega arith) in
          let same : chain_from n t (head s lan) ≡ chain_from n s (head s lan) = chain_same s t (put_length s lan i v pause veto) n (head s lan) (subst (SameAll s t (put_length s lan i v pause veto)) (sym less) (chain_all_same lan p.port)) in
          ap (λ m. chain_from m t (head t lan)) (records_same ∙ e)
          ∙ ap (chain_from (suc n) t) new_head
          ∙ chain_next t (suc n) n i refl (λ z. omega arith)
          ∙ ap (λ (j : ℕ). i ∷ chain_from n t j) linked
          ∙ ap (λ (is : List ℕ). i ∷ is) (same ∙ less)

  -- ---- the new record
  field : (k : ℕ) → k < 8 → word (put s lan i v pause veto) (8 * i + k) ≡ word (new_record (head s lan) v pause veto) k
  field k h = put_in s lan i v pause veto p.port p.above0 p.inside k h

  pub new_setting : setting (put s lan i v pause veto) i ≡ record { version = v; pause = pause; veto = veto }
  new_setting = rw (field 1 (omega arith), field 2 (omega arith), field 3 (omega arith)) (ap (λ (b : Bool). record { version = v; pause = pause; veto = b }) (is_one veto))
    where
      is_one : (b : Bool) → eqb (cond b 1 0) 1 ≡ b
      is_one true = refl
      is_one false = refl

  v_low : 1 ≤ v
  v_low = go (head s lan) p.next
    where
      go : (h : ℕ) → v ≡ above s h → 1 ≤ v
      go zero e = omega arith
      go (suc h) e = omega arith

  new_zeros : zeros (put s lan i v pause veto) (8 * i + 4) 4 ≡ true
  new_zeros = zeros_of (put s lan i v pause veto) (8 * i + 4) 4 each
    where
      last : (k : ℕ) → k < 4 → word (new_record (head s lan) v pause veto) (4 + k) ≡ 0
      last zero h = refl
      last (suc zero) h = refl
      last (suc (suc zero)) h = refl
      last (suc (suc (suc zero))) h = refl
      last (suc (suc (suc (suc k)))) h = absurd (omega arith)

      each : (k : ℕ) → k < 4 → word (put s lan i v pause veto) (8 * i + 4 + k) ≡ 0
      each k h = let at : 8 * i + 4 + k ≡ 8 * i + (4 + k) = omega arith in rw at (field (4 + k) (omega arith) ∙ last k h)

  new_good : is_good (put s lan i v pause veto) i ≡ true
  unfolding is_good
  new_good =
      let t = put s lan i v pause veto in
      let a : ltb i (records t) ≡ true = lt-ltb i (records t) (let e = records_same in let f = p.inside in omega arith) in
      let b : leb 1 (version t i) ≡ true = le-leb 1 (version t i) (let e = field 1 (omega arith) in let f = v_low in omega arith) in
      let c : is_pause (Records.pause t i) ≡ true = rw (field 2 (omega arith)) p.range in
      let d : leb (Records.veto t i) 1 ≡ true = le-leb (Records.veto t i) 1 (let e = field 3 (omega arith) in let f = one_or_zero veto in omega arith) in
      rw (a, b, c, d, new_zeros) refl
    where
      one_or_zero : (b : Bool) → cond b 1 0 ≤ 1
      one_or_zero true = omega arith
      one_or_zero false = omega arith

  -- the versions of its lan's chain are below the new one
  pub versions_below : fall_below v (map (version s) (chain s lan)) ≡ true
  unfolding fall_below
  versions_below = go (records s) (head s lan) refl refl p.next
    where
      falling : falls (map (version s) (chain s lan)) ≡ true
      falling = and_right (list_all (is_good s) (chain s lan)) (falls (map (version s) (chain s lan))) (one_chain s lan p.whole p.port)

      go : (n h : ℕ) → records s ≡ n → head s lan ≡ h → v ≡ above s h → fall_below v (map (version s) (chain s lan)) ≡ true
      go n zero e f g = rw (chain_end s (records s) (head s lan) f) refl
      go zero (suc h) e f g = absurd (let a = p.inside in omega arith)
      go (suc n) (suc h) e f g =
          let some : head s lan ≡ 0 → ⊥ = λ z. omega arith in
          let linked : chain s lan ≡ head s lan ∷ chain_from n s (next s (head s lan)) = chain_next s (records s) n (head s lan) e some in
          let all = ap (λ (is : List ℕ). falls (map (version s) is)) (sym linked) ∙ falling in
          let first : ltb (version s (head s lan)) v ≡ true = lt-ltb (version s (head s lan)) v (let same : version s (suc h) ≡ version s (head s lan) = ap (version s) (sym f) in omega arith) in
          let rest = and_right (ltb (version s (head s lan)) 4294967296) (fall_below (version s (head s lan)) (map (version s) (chain_from n s (next s (head s lan))))) all in
          ap (λ (is : List ℕ). fall_below v (map (version s) is)) linked
          ∙ and_all (ltb (version s (head s lan)) v) (fall_below (version s (head s lan)) (map (version s) (chain_from n s (next s (head s lan))))) first rest

  -- ---- the whole store
  own_whole : chain_whole (put s lan i v pause veto) (chain (put s lan i v pause veto) lan) ≡ true
  unfolding fall_below
  own_whole =
      let t = put s lan i v pause veto in
      let same = chain_all_same lan p.port in
      let len = put_length s lan i v pause veto in
      let goods : list_all (is_good t) (chain s lan) ≡ true = goods_same s t len (chain s lan) same ∙ chain_good s lan p.whole p.port in
      let new : version t i ≡ v = field 1 (omega arith) in
      let first : ltb (version t i) 4294967296 ≡ true = lt-ltb (version t i) 4294967296 (let e = p.small in omega arith) in
      let later : fall_below (version t i) (map (version t) (chain s lan)) ≡ true = rw (new, versions_same s t len (chain s lan) same) versions_below in
      ap (chain_whole t) own_chain
      ∙ and_all (is_good t i && list_all (is_good t) (chain s lan)) (ltb (version t i) 4294967296 && fall_below (version t i) (map (version t) (chain s lan)))
      (and_all (is_good t i) (list_all (is_good t) (chain s lan)) new_good goods)
      (and_all (ltb (version t i) 4294967296) (fall_below (version t i) (map (version t) (chain s lan))) first later)

  other_whole : (l : ℕ) → l ≤ 1 → (l ≡ lan → ⊥) → chain_whole (put s lan i v pause veto) (chain (put s lan i v pause veto) l) ≡ true
  other_whole l h d =
      let t = put s lan i v pause veto in
      let same = chain_all_same l h in
      let len = put_length s lan i v pause veto in
      ap (chain_whole t) (other_chain l h d)
      ∙ rw (goods_same s t len (chain s l) same, versions_same s t len (chain s l) same) (one_chain s l p.whole h)

  form : has_form (put s lan i v pause veto) ≡ true
  form =
      let t = put s lan i v pause veto in
      let len = put_length s lan i v pause veto in
      let heads : zeros t 2 6 ≡ zeros s 2 6 = zeros_same s t len 2 6 (λ k h. put_other s lan i v pause veto (2 + k) (λ e. let a = p.port in omega arith) (inl (let a = p.above0 in omega arith))) in
      let w = parts s p.whole in
      rw (len, heads) w.form

-- a record that is in neither chain changes nothing of what they have in common
apart_left : (i : ℕ) (is js : List ℕ) → has i js ≡ false → apart is js ≡ true → apart (i ∷ is) js ≡ true
apart_left i is js h e = rw h e

apart_right : (i : ℕ) (is js : List ℕ) → has i is ≡ false → apart is js ≡ true → apart is (i ∷ js) ≡ true
apart_right i is js h e = ap not (same is h) ∙ e
  where
    same : (ks : List ℕ) → has i ks ≡ false → list_any (λ k. has k (i ∷ js)) ks ≡ list_any (λ k. has k js) ks
    same [] f = refl
    same (k ∷ ks) f =
        let both = or_none (eqb k i) (has i ks) f in
        let other : eqb i k ≡ false = ne_eqb i k (λ g. eqb-false k i both.0 (sym g)) in
        rw (other, same ks both.1) refl

module _ (s : List ℕ) (lan i v pause : ℕ) (veto : Bool) (p : Putting s lan i v pause) where
  each_whole : (l : ℕ) → l ≤ 1 → chain_whole (put s lan i v pause veto) (chain (put s lan i v pause veto) l) ≡ true
  each_whole l h = elim (cases_eq l lan) [
    | inl e ↦ ap (λ (k : ℕ). chain_whole (put s lan i v pause veto) (chain (put s lan i v pause veto) k)) e ∙ own_whole s lan i v pause veto p
    | inr d ↦ other_whole s lan i v pause veto p l h d
  ]

  still_apart : apart (chain (put s lan i v pause veto) 0) (chain (put s lan i v pause veto) 1) ≡ true
  still_apart = go lan refl p.port
    where
      before : apart (chain s 0) (chain s 1) ≡ true
      before = let w = parts s p.whole in w.apart

      go : (l : ℕ) → lan ≡ l → l ≤ 1 → apart (chain (put s lan i v pause veto) 0) (chain (put s lan i v pause veto) 1) ≡ true
      go zero e h =
          let own : chain (put s lan i v pause veto) 0 ≡ i ∷ chain s 0 = ap (chain (put s lan i v pause veto)) (sym e) ∙ own_chain s lan i v pause veto p ∙ ap (λ (k : ℕ). i ∷ chain s k) e in
          let other = other_chain s lan i v pause veto p 1 (omega arith) (λ f. omega arith) in
          ap (λ (is : List ℕ). apart is (chain (put s lan i v pause veto) 1)) own ∙ ap (apart (i ∷ chain s 0)) other ∙ apart_left i (chain s 0) (chain s 1) (not_in s lan i v pause veto p 1 (omega arith)) before
      go (suc zero) e h =
          let own : chain (put s lan i v pause veto) 1 ≡ i ∷ chain s 1 = ap (chain (put s lan i v pause veto)) (sym e) ∙ own_chain s lan i v pause veto p ∙ ap (λ (k : ℕ). i ∷ chain s k) e in
          let other = other_chain s lan i v pause veto p 0 (omega arith) (λ f. omega arith) in
          ap (apart (chain (put s lan i v pause veto) 0)) own ∙ ap (λ (is : List ℕ). apart is (i ∷ chain s 1)) other ∙ apart_right i (chain s 0) (chain s 1) (not_in s lan i v pause veto p 0 (omega arith)) before
      go (suc (suc l)) e h = absurd (omega arith)

  pub still_whole : is_whole (put s lan i v pause veto) ≡ true
  still_whole =
      let t = put s lan i v pause veto in
      from_parts t record {
        form = form s lan i v pause veto p;
        long = let e = put_length s lan i v pause veto in let l = long s lan i v pause veto p in omega arith;
        first = each_whole 0 (omega arith);
        second = each_whole 1 (omega arith);
        apart = still_apart;
      }

  -- ---- what is found
  -- the new version, in the new record
  pub new_found : with_version (put s lan i v pause veto) v (chain (put s lan i v pause veto) lan) ≡ Some i
  new_found =
      let t = put s lan i v pause veto in
      let new : version t i ≡ v = field s lan i v pause veto p 1 (omega arith) in
      ap (with_version t v) (own_chain s lan i v pause veto p) ∙ rw (eq-eqb (version t i) v new) refl

  -- every version that was there, in its record
  pub old_found : (l w j : ℕ) → l ≤ 1 → with_version s w (chain s l) ≡ Some j → with_version (put s lan i v pause veto) w (chain (put s lan i v pause veto) l) ≡ Some j
  old_found l w j h e = elim (cases_eq l lan) [ inl same ↦ own same | inr d ↦ other d ]
    where
      still : (k : ℕ) → k ≤ 1 → with_version (put s lan i v pause veto) w (chain s k) ≡ with_version s w (chain s k)
      still k h = found_same s (put s lan i v pause veto) (put_length s lan i v pause veto) w (chain s k) (chain_all_same s lan i v pause veto p k h)

      other : (l ≡ lan → ⊥) → with_version (put s lan i v pause veto) w (chain (put s lan i v pause veto) l) ≡ Some j
      other d = ap (with_version (put s lan i v pause veto) w) (other_chain s lan i v pause veto p l h d) ∙ still l h ∙ e

      own : l ≡ lan → with_version (put s lan i v pause veto) w (chain (put s lan i v pause veto) l) ≡ Some j
      own same =
          let t = put s lan i v pause veto in
          let there = found_in s w (chain s l) {i = j} e in
          let here : has j (chain s lan) ≡ true = rw (← same) there.0 in
          let below = lower s v (chain s lan) (versions_below s lan i v pause veto p) j here in
          let new : version t i ≡ v = field s lan i v pause veto p 1 (omega arith) in
          let named : version s j ≡ w = there.1 in
          let differs : eqb (version t i) w ≡ false = ne_eqb (version t i) w (λ f. omega arith) in
          ap (λ (k : ℕ). with_version t w (chain t k)) same
          ∙ ap (with_version t w) (own_chain s lan i v pause veto p)
          ∙ rw differs (still lan p.port ∙ ap (λ (k : ℕ). with_version s w (chain s k)) (sym same) ∙ e)
