-- Swapped twice, a word is itself; a reply fits where the block has a word for each of its words and one for the header
use Rattle.std.proofs.Common.{◌≡◌, ℕ, ◌+◌, ◌*◌, ◌/◌, ◌^◌, ◌<◌, Bool, true, false, ltb, leb, sym, refl, ◌∙◌, mod-lt, zero-lt-suc, div-one, arith, le-ltb, lt-ltb, leb-false, leb-true}
use Rattle.words.specs.Hostif.{byte, swap_bytes, fits, reply_words}
use Rattle.words.proofs.Bits.{field, behind}

-- a word of these bytes, the highest first
word : ℕ → ℕ → ℕ → ℕ → ℕ
word a b c d = a * 2 ^ 24 + b * 2 ^ 16 + c * 2 ^ 8 + d

swap_word : (a b c d : ℕ) → a < 256 → b < 256 → c < 256 → d < 256 → swap_bytes (word a b c d) ≡ word d c b a
unfolding swap_bytes word
swap_word a b c d ha hb hc hd =
    let e0 : byte 0 (word a b c d) ≡ d = field 0 8 (word a b c d) 0 d (a * 2 ^ 16 + b * 2 ^ 8 + c) (omega arith) hd (omega arith) in
    let e1 : byte 1 (word a b c d) ≡ c = field 8 8 (word a b c d) d c (a * 2 ^ 8 + b) hd hc (omega arith) in
    let e2 : byte 2 (word a b c d) ≡ b = field 16 8 (word a b c d) (c * 2 ^ 8 + d) b a (omega arith) hb (omega arith) in
    let e3 : byte 3 (word a b c d) ≡ a = field 24 8 (word a b c d) (b * 2 ^ 16 + c * 2 ^ 8 + d) a 0 (omega arith) ha (omega arith) in
    omega (arith, e0, e1, e2, e3)

joined : (w q8 q16 q24 q32 a b c d : ℕ) → w ≡ q8 * 2 ^ 8 + d → q8 ≡ q16 * 2 ^ 8 + c → q16 ≡ q24 * 2 ^ 8 + b → q24 ≡ q32 * 2 ^ 8 + a → q32 ≡ 0
    → word a b c d ≡ w
unfolding word
joined w q8 q16 q24 q32 a b c d h0 h1 h2 h3 h4 = omega arith

pub swap_twice : (w : ℕ) → w < 2 ^ 32 → swap_bytes (swap_bytes w) ≡ w
unfolding swap_bytes word
swap_twice w h =
    let small : (i : ℕ) → byte i w < 256 = λ i. mod-lt (w / 2 ^ (8 * i)) (zero-lt-suc 255) in
    swap_word (byte 0 w) (byte 1 w) (byte 2 w) (byte 3 w) (small 0) (small 1) (small 2) (small 3)
    ∙ joined w (w / 2 ^ 8) (w / 2 ^ 16) (w / 2 ^ 24) (w / 2 ^ 32) (byte 3 w) (byte 2 w) (byte 1 w) (byte 0 w)
    (sym (div-one w) ∙ behind 0 8 w) (behind 8 8 w) (behind 16 8 w) (behind 24 8 w) (omega arith)

pub fits_words : (len words : ℕ) → fits len words ≡ ltb (reply_words len) words
unfolding fits reply_words
fits_words len words = go (leb (len + 4) (4 * words)) refl
  where
    go : (b : Bool) → leb (len + 4) (4 * words) ≡ b → leb (len + 4) (4 * words) ≡ ltb ((len + 3) / 4) words
    go true e = e ∙ sym (lt-ltb ((len + 3) / 4) words (omega (arith, leb-true (len + 4) (4 * words) e)))
    go false e = e ∙ sym (le-ltb ((len + 3) / 4) words (omega (arith, leb-false (len + 4) (4 * words) e)))
