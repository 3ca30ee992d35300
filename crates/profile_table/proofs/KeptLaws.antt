-- The rows that are kept have the error, and where there is none the profiles, of all that were read
use borrow.Author.Tests.{le-leb, lt-leb, lt-ltb}
use Rattle.std.proofs.Common.{ℕ, ◌+◌, ◌*◌, ◌≡◌, ◌<◌, ◌≤◌, ◌⊎◌, List, [], ◌∷◌, ◌++◌, fold, length, take, drop, length-append, length-take-le, take-append-drop, append_assoc, append-nil, Some, None, inl, inr, refl, sym, ◌∙◌, ap, arith}
use Rattle.std.proofs.lemmas.List.Sums.{fold-append}
use Rattle.profile_table.specs.Rows.{rows_of}
use Rattle.profile_table.specs.Table.{fault}
use Rattle.profile_table.specs.Turn.{kept}
use Rattle.profile_table.specs.declared.row.Row.{Row}
use Rattle.profile_table.specs.declared.fault.Fault.TheVariants.{BadRow}

-- rows as words
abbrev pub words_of : List Row → List ℕ
words_of [] = []
words_of (r ∷ rs) = r.device ∷ r.first ∷ r.last ∷ r.profile ∷ words_of rs

pub rows_back : (rs : List Row) → rows_of (words_of rs) ≡ rs
unfolding rows_of
rows_back [] = refl
rows_back (r ∷ rs) = ap (λ (l : List Row). r ∷ l) (rows_back rs)

length_words : (rs : List Row) → length (words_of rs) ≡ 4 * length rs
length_words [] = refl
length_words (r ∷ rs) = omega (arith, length_words rs)

words_push : (rs : List Row) (r : Row) → words_of rs ++ (r.device ∷ r.first ∷ r.last ∷ r.profile ∷ []) ≡ words_of (rs ++ r ∷ [])
words_push [] r = refl
words_push (s ∷ rs) r = ap (λ (l : List ℕ). s.device ∷ s.first ∷ s.last ∷ s.profile ∷ l) (words_push rs r)

kept_more : (rs : List Row) (r : Row) → length rs < 257 → kept (words_of rs) r ≡ words_of (rs ++ r ∷ [])
unfolding kept
kept_more rs r h =
    let room : length (words_of rs) + 4 ≤ 1028 = omega (arith, length_words rs) in
    rw (le-leb _ _ room) (words_push rs r)

kept_full : (rs : List Row) (r : Row) → length rs ≡ 257 → kept (words_of rs) r ≡ words_of rs
unfolding kept
kept_full rs r h =
    let full : 1028 < length (words_of rs) + 4 = omega (arith, length_words rs) in
    rw (lt-leb _ _ full) refl

keeps : (ks rs : List Row) → length ks + length rs ≤ 257 → fold kept (words_of ks) rs ≡ words_of (ks ++ rs)
keeps ks [] h = ap words_of (sym (append-nil ks))
keeps ks (r ∷ rs) h =
    let long : length (ks ++ r ∷ []) ≡ length ks + 1 = length-append ks (r ∷ []) in
    ap (λ (l : List ℕ). fold kept l rs) (kept_more ks r (omega arith))
    ∙ keeps (ks ++ r ∷ []) rs (omega arith)
    ∙ ap words_of (append_assoc ks (r ∷ []) rs)

stays : (ks rs : List Row) → length ks ≡ 257 → fold kept (words_of ks) rs ≡ words_of ks
stays ks [] h = refl
stays ks (r ∷ rs) h = ap (λ (l : List ℕ). fold kept l rs) (kept_full ks r h) ∙ stays ks rs h

many_fault : (rows : List Row) → 256 < length rows → fault rows ≡ Some (BadRow 256)
unfolding fault
many_fault rows h = rw (lt-ltb _ _ h) refl

few_or_many : (m n : ℕ) → (m ≤ n) ⊎ (n < m)
few_or_many m n = grind arith

all_kept : (rs : List Row) → length rs ≤ 257 → rows_of (fold kept [] rs) ≡ rs
all_kept rs h = ap rows_of (keeps [] rs (omega arith)) ∙ rows_back rs

first_kept : (rs : List Row) → 257 < length rs → rows_of (fold kept [] rs) ≡ take 257 rs
first_kept rs h =
    let long : length (take 257 rs) ≡ 257 = length-take-le 257 rs (omega arith) in
    let whole : rs ≡ take 257 rs ++ drop 257 rs = sym (take-append-drop 257 rs) in
    ap (λ (l : List Row). rows_of (fold kept [] l)) whole
    ∙ ap rows_of (fold-append kept [] (take 257 rs) (drop 257 rs))
    ∙ ap (λ (l : List ℕ). rows_of (fold kept l (drop 257 rs))) (keeps [] (take 257 rs) (omega arith))
    ∙ ap rows_of (stays (take 257 rs) (drop 257 rs) long)
    ∙ rows_back (take 257 rs)

-- the rows that are kept have the error of all rows that were read
pub same_error : (rs : List Row) → fault (rows_of (fold kept [] rs)) ≡ fault rs
same_error rs = go (few_or_many (length rs) 257)
  where
    go : (length rs ≤ 257) ⊎ (257 < length rs) → fault (rows_of (fold kept [] rs)) ≡ fault rs
    go (inl few) = ap fault (all_kept rs few)
    go (inr many) =
        let long : length (take 257 rs) ≡ 257 = length-take-le 257 rs (omega arith) in
        ap fault (first_kept rs many) ∙ many_fault (take 257 rs) (omega arith) ∙ sym (many_fault rs (omega arith))

-- where there is none, they are all of them
pub all_are_kept : (rs : List Row) → fault rs ≡ None → rows_of (fold kept [] rs) ≡ rs
all_are_kept rs h = go (few_or_many (length rs) 257)
  where
    go : (length rs ≤ 257) ⊎ (257 < length rs) → rows_of (fold kept [] rs) ≡ rs
    go (inl few) = all_kept rs few
    go (inr many) = let some = many_fault rs (omega arith) in absurd (let z : ⊥ = cc in z)
