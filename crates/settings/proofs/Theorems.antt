-- What a store that was done gives to every later call
use Rattle.std.proofs.Common.{ℕ, zero, suc, ◌+◌, ◌*◌, ◌≡◌, ◌<◌, ◌≤◌, inl, inr, Bool, true, false, ◌||◌, cond, ltb, min, ◌-◌, List, [], ◌∷◌, length, eqb, Option, Some, None, Ok, Err, option_map, refl, ap, sym, ◌∙◌, arith}
use Rattle.std.proofs.lemmas.Bool.{cases_eq}
use borrow.Author.Tests.{eq-eqb, ltb-false, both_ways}
use Rattle.settings.specs.Records.{word, records, head, next, setting, chain_from, chain}
use Rattle.settings.specs.Whole.{has, is_whole}
use Rattle.settings.specs.Calls.{read, at_head, newest, with_version, named, is_free, free, put, store}
use Rattle.settings.specs.Past.{set_to, Storing, left_by, after, NoneFor, SameReading, Stays, WritesOne}
use Rattle.settings.specs.declared.fault.Fault.{Fault}
use Rattle.settings.specs.declared.fault.Fault.TheVariants.{Lan, Damaged}
use Rattle.settings.specs.declared.setting.Setting.{Setting}
use Rattle.settings.proofs.GoodLaws.{or_right, in_one}
use Rattle.settings.proofs.ChainLaws.{chain_next}
use Rattle.settings.proofs.FirstLaws.{first_within}
use Rattle.settings.proofs.FallLaws.{no_zero}
use Rattle.settings.proofs.Parts.{parts, found_in}
use Rattle.settings.proofs.PutWords.{put_length, put_other, put_head}
use Rattle.settings.proofs.Frame.{setting_same, found_same}
use Rattle.settings.proofs.Grown.{Putting, record_same, chain_all_same, other_chain, own_chain, new_setting, still_whole, new_found, old_found, not_in}
use Rattle.settings.proofs.Inversion.{Done, Refused, outcome, IsRead, read_tells, reads}

-- ---- one call
module _ (s : List ℕ) (c : Storing) where
  -- a store that was whole is whole
  one_whole : is_whole s ≡ true → is_whole (left_by s c) ≡ true
  one_whole w = elim (outcome s c.lan c.pause c.veto) [
    | inl d ↦ ap is_whole d.left ∙ still_whole s c.lan d.i d.v c.pause c.veto d.putting
    | inr r ↦ ap is_whole r.left ∙ w
  ]

  -- a record that was found is found, and says the same
  module _ (lan v i : ℕ) (l : lan ≤ 1) (e : with_version s v (chain s lan) ≡ Some i) where
    one_found : with_version (left_by s c) v (chain (left_by s c) lan) ≡ Some i
    one_found = elim (outcome s c.lan c.pause c.veto) [
      | inl d ↦ ap (λ (t : List ℕ). with_version t v (chain t lan)) d.left ∙ old_found s c.lan d.i d.v c.pause c.veto d.putting lan v i l e
      | inr r ↦ ap (λ (t : List ℕ). with_version t v (chain t lan)) r.left ∙ e
    ]

-- the eight words of a record of a chain
one_stays : (s : List ℕ) (c : Storing) (lan i : ℕ) → lan ≤ 1 → has i (chain s lan) ≡ true → Stays s (left_by s c) lan i
one_stays s c lan i l h = elim (outcome s c.lan c.pause c.veto) [ inl d ↦ done d | inr r ↦ refused r ]
  where
    refused : Refused s (store s c.lan c.pause c.veto).0 (left_by s c) → Stays s (left_by s c) lan i
    refused r = record { there = ap (λ (t : List ℕ). has i (chain t lan)) r.left ∙ h; words = λ k f. ap (λ (t : List ℕ). word t (8 * i + k)) r.left }

    done : Done s c.lan c.pause c.veto (store s c.lan c.pause c.veto).0 (left_by s c) → Stays s (left_by s c) lan i
    done d = record {
      there = ap (λ (t : List ℕ). has i (chain t lan)) d.left ∙ elim (cases_eq lan c.lan) [ inl same ↦ own same | inr other ↦ ap (has i) (other_chain s c.lan d.i d.v c.pause c.veto d.putting lan l other) ∙ h ];
      words = λ k f. ap (λ (t : List ℕ). word t (8 * i + k)) d.left ∙ record_same s c.lan d.i d.v c.pause c.veto d.putting i not_zero not_new k f;
    }
      where
        not_zero : i ≡ 0 → ⊥
        not_zero e = let none = no_zero s (records s) (head s lan) in let there = ap (λ (k : ℕ). has k (chain s lan)) (sym e) ∙ h in let z : true ≡ false = sym there ∙ none in let w : ⊥ = cc in w

        not_new : i ≡ d.i → ⊥
        not_new e = let none = not_in s c.lan d.i d.v c.pause c.veto d.putting lan l in let there = ap (λ (k : ℕ). has k (chain s lan)) (sym e) ∙ h in let z : true ≡ false = sym there ∙ none in let w : ⊥ = cc in w

        own : lan ≡ c.lan → has i (chain (put s c.lan d.i d.v c.pause c.veto) lan) ≡ true
        own same =
            ap (λ (k : ℕ). has i (chain (put s c.lan d.i d.v c.pause c.veto) k)) same
            ∙ ap (has i) (own_chain s c.lan d.i d.v c.pause c.veto d.putting)
            ∙ ap (λ (b : Bool). eqb d.i i || b) (ap (λ (k : ℕ). has i (chain s k)) (sym same) ∙ h)
            ∙ or_right (eqb d.i i)

one_length : (s : List ℕ) (c : Storing) → length (left_by s c) ≡ length s
one_length s c = elim (outcome s c.lan c.pause c.veto) [
  | inl d ↦ ap (λ (t : List ℕ). length t) d.left ∙ put_length s c.lan d.i d.v c.pause c.veto
  | inr r ↦ ap (λ (t : List ℕ). length t) r.left
]

-- what a named version is
record Named (s : List ℕ) (lan v : ℕ) (x : Setting) : Type 0 where
  port : lan ≤ 1
  whole : is_whole s ≡ true
  i : ℕ
  found : with_version s v (chain s lan) ≡ Some i
  says : setting s i ≡ x

named_tells : (s : List ℕ) (lan v : ℕ) (x : Setting) → named s lan v ≡ Ok (Some x) → Named s lan v x
named_tells s lan v x h = go (with_version s v (chain s lan)) refl (read_tells s lan (option_map (setting s) (with_version s v (chain s lan))) (Some x) h)
  where
    go : (o : Option ℕ) → with_version s v (chain s lan) ≡ o → IsRead s lan (option_map (setting s) o) (Some x) → Named s lan v x
    go None e r = let n : None ≡ Some x = r.same in absurd (let z : ⊥ = cc in z)
    go (Some i) e r = let n : Some (setting s i) ≡ Some x = r.same in record { port = r.port; whole = r.whole; i = i; found = e; says = cc }

named_by : (s : List ℕ) (lan v : ℕ) (x : Setting) → Named s lan v x → named s lan v ≡ Ok (Some x)
named_by s lan v x n =
    reads s lan (option_map (setting s) (with_version s v (chain s lan))) n.port n.whole
    ∙ ap (λ (o : Option ℕ). Ok (option_map (setting s) o)) n.found
    ∙ ap (λ (y : Setting). Ok (Some y)) n.says

one_named : (s : List ℕ) (c : Storing) (lan v : ℕ) (x : Setting) → named s lan v ≡ Ok (Some x) → named (left_by s c) lan v ≡ Ok (Some x)
one_named s c lan v x h =
    let n = named_tells s lan v x h in
    let stays = one_stays s c lan n.i n.port (let f = found_in s v (chain s lan) {i = n.i} n.found in f.0) in
    named_by (left_by s c) lan v x record {
      port = n.port;
      whole = one_whole s c n.whole;
      i = n.i;
      found = one_found s c lan v n.i n.port n.found;
      says = setting_same s (left_by s c) (one_length s c) n.i stays.words ∙ n.says;
    }

-- ---- any number of calls
-- a whole store stays whole
pub stays_whole : (s : List ℕ) (later : List Storing) → is_whole s ≡ true → is_whole (after s later) ≡ true
unfolding after
stays_whole s [] w = w
stays_whole s (c ∷ later) w = stays_whole (left_by s c) later (one_whole s c w)

-- every version that could be read can be read, unchanged
pub still_read : (s : List ℕ) (later : List Storing) (lan v : ℕ) (x : Setting) → named s lan v ≡ Ok (Some x) → named (after s later) lan v ≡ Ok (Some x)
unfolding after
still_read s [] lan v x h = h
still_read s (c ∷ later) lan v x h = still_read (left_by s c) later lan v x (one_named s c lan v x h)

-- what was stored is read by its version, behind any later calls on either lan
pub stored_is_read : (s : List ℕ) (lan pause : ℕ) (veto : Bool) (v : ℕ) (later : List Storing) → (store s lan pause veto).0 ≡ Ok v
    → named (after (store s lan pause veto).1 later) lan v ≡ Ok (Some (set_to v pause veto))
stored_is_read s lan pause veto v later h = still_read (store s lan pause veto).1 later lan v (set_to v pause veto) now
  where
    done : Done s lan pause veto (store s lan pause veto).0 (store s lan pause veto).1 → named (store s lan pause veto).1 lan v ≡ Ok (Some (set_to v pause veto))
    done d =
        let p = d.putting in
        let same : d.v ≡ v = let e : Ok d.v ≡ Ok v = sym d.answer ∙ h in cc in
        let t = put s lan d.i d.v pause veto in
        let n : Named t lan d.v (set_to d.v pause veto) = record {
          port = p.port;
          whole = still_whole s lan d.i d.v pause veto p;
          i = d.i;
          found = new_found s lan d.i d.v pause veto p;
          says = new_setting s lan d.i d.v pause veto p;
        } in
        ap (λ (u : List ℕ). named u lan v) d.left
        ∙ ap (named t lan) (sym same)
        ∙ named_by t lan d.v (set_to d.v pause veto) n
        ∙ ap (λ (w : ℕ). Ok (Some (set_to w pause veto))) same

    now : named (store s lan pause veto).1 lan v ≡ Ok (Some (set_to v pause veto))
    now = elim (outcome s lan pause veto) [
      | inl d ↦ done d
      | inr r ↦ let e : Err r.fault ≡ Ok v = sym r.answer ∙ h in absurd (let z : ⊥ = cc in z)
    ]

-- no old record moves, and none of its words changes
pub no_record_moves : (s : List ℕ) (later : List Storing) (lan i : ℕ) → lan ≤ 1 → has i (chain s lan) ≡ true → Stays s (after s later) lan i
unfolding after
no_record_moves s [] lan i l h = record { there = h; words = λ k f. refl }
no_record_moves s (c ∷ later) lan i l h =
    let one = one_stays s c lan i l h in
    let rest = no_record_moves (left_by s c) later lan i l one.there in
    record { there = rest.there; words = λ k f. rest.words k f ∙ one.words k f }

-- a refused call changes no word
pub refused_changes_nothing : (s : List ℕ) (lan pause : ℕ) (veto : Bool) (f : Fault) → (store s lan pause veto).0 ≡ Err f → (store s lan pause veto).1 ≡ s
refused_changes_nothing s lan pause veto f h = elim (outcome s lan pause veto) [
  | inl d ↦ let e : Ok d.v ≡ Err f = sym d.answer ∙ h in absurd (let z : ⊥ = cc in z)
  | inr r ↦ r.left
]

-- one that is done writes the first record above 0 outside both chains, and the head, and nothing else
pub writes_one : (s : List ℕ) (lan pause : ℕ) (veto : Bool) (v : ℕ) → (store s lan pause veto).0 ≡ Ok v → WritesOne s (store s lan pause veto).1 lan
unfolding free
writes_one s lan pause veto v h = elim (outcome s lan pause veto) [
  | inl d ↦ done d
  | inr r ↦ let e : Err r.fault ≡ Ok v = sym r.answer ∙ h in absurd (let z : ⊥ = cc in z)
]
  where
    done : Done s lan pause veto (store s lan pause veto).0 (store s lan pause veto).1 → WritesOne s (store s lan pause veto).1 lan
    done d =
        let p = d.putting in
        let w = first_within (is_free s) 1 (min (records s) 4294967296 - 1) {j = d.i} d.first in
        record {
          i = d.i;
          above = p.above0;
          outside = λ l k e. both_ways (has d.i (chain s l)) (not_in s lan d.i d.v pause veto p l k) e;
          first = λ j a b. in_one (has j (chain s 0)) (has j (chain s 1)) (w.before j a b);
          only = λ at other apart. ap (λ (t : List ℕ). word t at) d.left ∙ put_other s lan d.i d.v pause veto at other apart;
        }

-- ---- the other lan
-- a head that is not zero is in its chain
pub head_has : (s : List ℕ) (lan : ℕ) → 0 < records s → (head s lan ≡ 0 → ⊥) → has (head s lan) (chain s lan) ≡ true
head_has s lan h d = go (records s) refl
  where
    go : (n : ℕ) → records s ≡ n → has (head s lan) (chain s lan) ≡ true
    go zero e = absurd (omega arith)
    go (suc n) e = ap (has (head s lan)) (chain_next s (records s) n (head s lan) e d) ∙ ap (λ (b : Bool). b || has (head s lan) (chain_from n s (next s (head s lan)))) (eq-eqb (head s lan) (head s lan) refl)

module _ (s : List ℕ) (lan i v pause : ℕ) (veto : Bool) (p : Putting s lan i v pause) (l : ℕ) (port : l ≤ 1) (d : l ≡ lan → ⊥) where
  same_setting : (j : ℕ) → has j (chain s l) ≡ true → setting (put s lan i v pause veto) j ≡ setting s j
  same_setting j h = setting_same s (put s lan i v pause veto) (put_length s lan i v pause veto) j (chain_all_same s lan i v pause veto p l port j h)

  head_kept : at_head (put s lan i v pause veto) (head (put s lan i v pause veto) l) ≡ at_head s (head s l)
  head_kept = ap (at_head (put s lan i v pause veto)) same_head ∙ go (head s l) refl
    where
      same_head : head (put s lan i v pause veto) l ≡ head s l
      same_head = put_other s lan i v pause veto l d (inl (let a = p.above0 in omega arith))

      go : (h : ℕ) → head s l ≡ h → at_head (put s lan i v pause veto) h ≡ at_head s h
      go zero e = refl
      go (suc h) e =
          let w = parts s p.whole in
          let n = w.long in
          let there : has (suc h) (chain s l) ≡ true = ap (λ (k : ℕ). has k (chain s l)) (sym e) ∙ head_has s l (omega arith) (λ z. omega arith) in
          ap (λ (x : Setting). Some x) (same_setting (suc h) there)

  version_kept : (w : ℕ) → option_map (setting (put s lan i v pause veto)) (with_version (put s lan i v pause veto) w (chain (put s lan i v pause veto) l)) ≡ option_map (setting s) (with_version s w (chain s l))
  version_kept w =
      ap (λ (is : List ℕ). option_map (setting (put s lan i v pause veto)) (with_version (put s lan i v pause veto) w is)) (other_chain s lan i v pause veto p l port d)
      ∙ ap (option_map (setting (put s lan i v pause veto))) (found_same s (put s lan i v pause veto) (put_length s lan i v pause veto) w (chain s l) (chain_all_same s lan i v pause veto p l port))
      ∙ go (with_version s w (chain s l)) refl
    where
      go : (o : Option ℕ) → with_version s w (chain s l) ≡ o → option_map (setting (put s lan i v pause veto)) o ≡ option_map (setting s) o
      go None e = refl
      go (Some j) e = ap (λ (x : Setting). Some x) (same_setting j (let f = found_in s w (chain s l) {i = j} e in f.0))

-- a reading of a lan above 1, or in a whole store
same_read : (s t : List ℕ) (lan : ℕ) (x y : Option Setting) → is_whole s ≡ true → is_whole t ≡ true → (lan ≤ 1 → y ≡ x) → read t lan y ≡ read s lan x
same_read s t lan x y w u h = go (ltb 1 lan) refl
  where
    go : (b : Bool) → ltb 1 lan ≡ b → cond b (Err Lan) (cond (is_whole t) (Ok y) (Err Damaged)) ≡ cond b (Err Lan) (cond (is_whole s) (Ok x) (Err Damaged))
    go true e = refl
    go false e = rw (w, u) (ap (λ (o : Option Setting). Ok o) (h (ltb-false 1 lan e)))

one_other : (s : List ℕ) (c : Storing) (lan : ℕ) → (c.lan ≡ lan → ⊥) → SameReading s (left_by s c) lan
one_other s c lan d = elim (outcome s c.lan c.pause c.veto) [ inl x ↦ done x | inr r ↦ refused r ]
  where
    refused : Refused s (store s c.lan c.pause c.veto).0 (left_by s c) → SameReading s (left_by s c) lan
    refused r = record { newest_same = ap (λ (t : List ℕ). newest t lan) r.left; named_same = λ v. ap (λ (t : List ℕ). named t lan v) r.left }

    done : Done s c.lan c.pause c.veto (store s c.lan c.pause c.veto).0 (left_by s c) → SameReading s (left_by s c) lan
    done x =
        let p = x.putting in
        let t = put s c.lan x.i x.v c.pause c.veto in
        let whole = still_whole s c.lan x.i x.v c.pause c.veto p in
        record {
          newest_same = ap (λ (u : List ℕ). newest u lan) x.left
              ∙ same_read s t lan (at_head s (head s lan)) (at_head t (head t lan)) p.whole whole (λ l. head_kept s c.lan x.i x.v c.pause c.veto p lan l (λ e. d (sym e)));
          named_same = λ v. ap (λ (u : List ℕ). named u lan v) x.left
              ∙ same_read s t lan (option_map (setting s) (with_version s v (chain s lan))) (option_map (setting t) (with_version t v (chain t lan))) p.whole whole (λ l. version_kept s c.lan x.i x.v c.pause c.veto p lan l (λ e. d (sym e)) v);
        }

-- nothing that is read of a lan changes by calls for the other
pub other_lan_kept : (s : List ℕ) (later : List Storing) (lan : ℕ) → NoneFor lan later → SameReading s (after s later) lan
unfolding after
other_lan_kept s [] lan h = record { newest_same = refl; named_same = λ v. refl }
other_lan_kept s (c ∷ later) lan h =
    let one = one_other s c lan h.0 in
    let rest = other_lan_kept (left_by s c) later lan h.1 in
    record { newest_same = rest.newest_same ∙ one.newest_same; named_same = λ v. rest.named_same v ∙ one.named_same v }

-- what was stored is the newest of its lan, until the next call for that lan
pub stored_is_newest : (s : List ℕ) (lan pause : ℕ) (veto : Bool) (v : ℕ) (later : List Storing) → NoneFor lan later → (store s lan pause veto).0 ≡ Ok v
    → newest (after (store s lan pause veto).1 later) lan ≡ Ok (Some (set_to v pause veto))
stored_is_newest s lan pause veto v later n h = kept ∙ now
  where
    kept : newest (after (store s lan pause veto).1 later) lan ≡ newest (store s lan pause veto).1 lan
    kept = let k = other_lan_kept (store s lan pause veto).1 later lan n in k.newest_same

    done : Done s lan pause veto (store s lan pause veto).0 (store s lan pause veto).1 → newest (store s lan pause veto).1 lan ≡ Ok (Some (set_to v pause veto))
    done d =
        let p = d.putting in
        let w = parts s p.whole in
        let long = w.long in
        let port = p.port in
        let same : d.v ≡ v = let e : Ok d.v ≡ Ok v = sym d.answer ∙ h in cc in
        let t = put s lan d.i d.v pause veto in
        ap (λ (u : List ℕ). newest u lan) d.left
        ∙ reads t lan (at_head t (head t lan)) p.port (still_whole s lan d.i d.v pause veto p)
        ∙ ap (λ (j : ℕ). Ok (at_head t j)) (put_head s lan d.i d.v pause veto (omega arith))
        ∙ ap (λ (o : Option Setting). Ok o) (at_some d.i p.above0)
        ∙ ap (λ (x : Setting). Ok (Some x)) (new_setting s lan d.i d.v pause veto p)
        ∙ ap (λ (u : ℕ). Ok (Some (set_to u pause veto))) same
      where
        at_some : (j : ℕ) → 0 < j → at_head (put s lan d.i d.v pause veto) j ≡ Some (setting (put s lan d.i d.v pause veto) j)
        at_some zero z = absurd (omega arith)
        at_some (suc j) z = refl

    now : newest (store s lan pause veto).1 lan ≡ Ok (Some (set_to v pause veto))
    now = elim (outcome s lan pause veto) [
      | inl d ↦ done d
      | inr r ↦ let e : Err r.fault ≡ Ok v = sym r.answer ∙ h in absurd (let z : ⊥ = cc in z)
    ]
