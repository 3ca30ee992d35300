-- The words behind a store that was done: those of the new record, the head, and all others as they were
use Rattle.std.proofs.Common.{ℕ, zero, suc, ◌+◌, ◌*◌, ◌≡◌, ◌<◌, ◌≤◌, ◌⊎◌, inl, inr, Bool, List, [], ◌∷◌, length, get_or, set, refl, ◌∙◌, arith}
use Rattle.std.proofs.Math.Seq.{length-sets}
use Rattle.std.proofs.lemmas.List.{get_or-set_same, get_or-set_other, length-set}
use Rattle.std.proofs.lemmas.List.Edits.{sets}
use Rattle.settings.specs.Records.{word, records, head}
use Rattle.settings.specs.Calls.{new_record, put}

sets_out : (vs l : List ℕ) (p at : ℕ) → (at < p) ⊎ (p + length vs ≤ at) → get_or (sets l p vs) at 0 ≡ get_or l at 0
sets_out [] l p at h = refl
sets_out (v ∷ vs) l p at h =
    let still : (at < suc p) ⊎ (suc p + length vs ≤ at) = elim h [ inl a ↦ inl (omega arith) | inr b ↦ inr (omega arith) ] in
    let other : at ≡ p → ⊥ = λ e. elim h [ inl a ↦ omega arith | inr b ↦ omega arith ] in
    sets_out vs (set l p v) (suc p) at still ∙ get_or-set_other l p at v 0 other

sets_in : (vs l : List ℕ) (p k : ℕ) → k < length vs → p + length vs ≤ length l → get_or (sets l p vs) (p + k) 0 ≡ get_or vs k 0
sets_in [] l p k h f = absurd (omega arith)
sets_in (v ∷ vs) l p zero h f =
    let at : p + 0 ≡ p = omega arith in
    let before : (p < suc p) ⊎ (suc p + length vs ≤ p) = inl (omega arith) in
    rw at (sets_out vs (set l p v) (suc p) p before ∙ get_or-set_same l p v 0 (omega arith))
sets_in (v ∷ vs) l p (suc k) h f =
    let at : p + suc k ≡ suc p + k = omega arith in
    let fits : suc p + length vs ≤ length (set l p v) = rw (length-set l p v) (omega arith) in
    rw at (sets_in vs (set l p v) (suc p) k (omega arith) fits)

module _ (s : List ℕ) (lan i v pause : ℕ) (veto : Bool) where
  abbrev rec : List ℕ
  rec = new_record (head s lan) v pause veto

  pub put_length : length (put s lan i v pause veto) ≡ length s
  put_length = length-set (sets s (8 * i) (new_record (head s lan) v pause veto)) lan i ∙ length-sets s (8 * i) (new_record (head s lan) v pause veto)

  -- a word that is neither the head nor of the record
  pub put_other : (at : ℕ) → (at ≡ lan → ⊥) → (at < 8 * i) ⊎ (8 * i + 8 ≤ at) → word (put s lan i v pause veto) at ≡ word s at
  put_other at d h =
      get_or-set_other (sets s (8 * i) (new_record (head s lan) v pause veto)) lan at i 0 d
      ∙ sets_out (new_record (head s lan) v pause veto) s (8 * i) at h

  pub put_head : lan < length s → word (put s lan i v pause veto) lan ≡ i
  put_head h =
      let fits : lan < length (sets s (8 * i) (new_record (head s lan) v pause veto)) = rw (length-sets s (8 * i) (new_record (head s lan) v pause veto)) h in
      get_or-set_same (sets s (8 * i) (new_record (head s lan) v pause veto)) lan i 0 fits

  pub put_in : lan ≤ 1 → 0 < i → i < records s → (k : ℕ) → k < 8 → word (put s lan i v pause veto) (8 * i + k) ≡ word (new_record (head s lan) v pause veto) k
  put_in l a h k f =
      get_or-set_other (sets s (8 * i) (new_record (head s lan) v pause veto)) lan (8 * i + k) i 0 (λ e. omega arith)
      ∙ sets_in (new_record (head s lan) v pause veto) s (8 * i) k (omega arith) (omega arith)
