-- Pairs of device and register, one word each
use Prim.Native.Nat.{ℕ, suc, ◌+◌, ◌*◌, ◌/◌, ◌%◌, ◌<◌, ◌≤◌}
use mathlib.Core.Path.{◌≡◌, refl, ap, sym, ◌∙◌}
use mathlib.Core.Bool.{Bool, true, false, ◌||◌}
use mathlib.Core.List.{List, [], ◌∷◌, ◌++◌}
use native.Mathlib.Omega.{arith}
use native.Mathlib.Numerals.{add-one}
use borrow.Author.Tests.{ltb-false}
use Rattle.std.proofs.lemmas.Bool.{or_parts}
use lib.Dec.{ltb}
use lib.ListN.{length, get_or, set, take, drop}
use lib.Seq.{sets}
use Rattle.std.proofs.Common.{replicate, take_at}
use Rattle.std.proofs.lemmas.List.Edits.{sets-eq}
use Rattle.hardware.proofs.TwoByTwo.{lone, just_two}
use Rattle.jobs.specs.List.{list_of, pair_word, pairs_in}
use Rattle.operations.specs.Pairs.{pairs_of, outside}
use Rattle.conversation.specs.Begun.{pair_words}

abbrev with_pair : (device register : ℕ) → List ℕ → List ℕ
with_pair device register rest = pair_word device register ∷ rest

pub pair_short : (ws : List ℕ) → length ws < 2 → pair_words ws ≡ []
pair_short [] h = refl
pair_short (w ∷ ws) h = lone pair_words (w ∷ ws) (omega arith) h

pub pairs_more : (p q : List ℕ) → length p ≡ 2 → length (pair_words (p ++ q)) ≡ length (pair_words q) + 1
pairs_more p q h = ap length (just_two pair_words with_pair (λ x y ws. refl) p q h) ∙ sym (add-one (length (pair_words q)))

pub pair_then : (p q own : List ℕ) (at : ℕ) → length p ≡ 2
    → sets own at (pair_words (p ++ q)) ≡ sets (set own at (get_or p 0 0 % 0x10000 * 0x10000 + get_or p 1 0 % 0x10000)) (at + 1) (pair_words q)
pair_then p q own at h =
    ap (sets own at) (just_two pair_words with_pair (λ x y ws. refl) p q h)
    ∙ ap (λ (n : ℕ). sets (set own at (pair_word (get_or p 0 0) (get_or p 1 0))) n (pair_words q)) (sym (add-one at))

pub as_many : (ws : List ℕ) → length (pair_words ws) ≡ length (pairs_of ws)
as_many [] = refl
as_many (device ∷ []) = refl
as_many (device ∷ register ∷ rest) = ap (λ (n : ℕ). suc n) (as_many rest)

in_range : (device register : ℕ) → device ≤ 31 → register ≤ 0xffff
    → (pair_word device register / 0x10000 ≡ device) × (pair_word device register % 0x10000 ≡ register)
in_range device register h k = (omega (arith, h, k), omega (arith, h, k))

-- the pairs are read back, where none is out of range
pub read_back : (ws : List ℕ) → outside ws ≡ false → pairs_in (pair_words ws) ≡ pairs_of ws
read_back [] h = refl
read_back (device ∷ []) h = refl
read_back (device ∷ register ∷ rest) h =
    let here = or_parts (ltb 31 device || ltb 0xffff register) _ h in
    let fits = or_parts (ltb 31 device) _ here.0 in
    let pair = in_range device register (ltb-false _ _ fits.0) (ltb-false _ _ fits.1) in
    ap (λ (d : ℕ). (d, pair_word device register % 0x10000) ∷ pairs_in (pair_words rest)) pair.0
    ∙ ap (λ (r : ℕ). (device, r) ∷ pairs_in (pair_words rest)) pair.1
    ∙ ap (λ (ps : List (ℕ × ℕ)). (device, register) ∷ ps) (read_back rest here.1)

-- from the conversation's own words
pub own_pairs : (ws : List ℕ) → outside ws ≡ false → length (pairs_of ws) ≤ 64
    → pairs_in (take (length (pairs_of ws)) (list_of (sets (replicate 80 0) 16 (pair_words ws)))) ≡ pairs_of ws
unfolding list_of
own_pairs ws h k =
    let n = as_many ws in
    ap (λ (own : List ℕ). pairs_in (take (length (pairs_of ws)) (drop 16 own))) (sets-eq (pair_words ws) (replicate 80 0) 16 (omega (arith, n, k)))
    ∙ ap pairs_in (take_at (pair_words ws) (drop (16 + length (pair_words ws)) (replicate 80 0)) (length (pairs_of ws)) n)
    ∙ read_back ws h
