-- The words of numbers, pairs, options and results, and what is read of them. An option or a result is a kind, 1 or 2, its part, and zeros up to its width
use Rattle.std.specs.Prelude.{ℕ, ◌-◌, ◌%◌, Bool, List, [], ◌∷◌, ◌++◌, eqb, drop, replicate, Option, None, Some, Result, Ok, Err}
use Rattle.hardware.specs.Talk.{pick}
use Rattle.packed.specs.Tape.{word_at, is, flag_of}

abbrev pub words_word : ℕ → List ℕ
words_word n = n ∷ []

abbrev pub get_byte : List ℕ → ℕ
get_byte s = word_at s 0 % 256

abbrev pub get_half : List ℕ → ℕ
get_half s = word_at s 0 % 65536

abbrev pub get_word : List ℕ → ℕ
get_word s = word_at s 0

abbrev pub words_flag : Bool → List ℕ
words_flag b = flag_of b ∷ []

abbrev pub get_flag : List ℕ → Bool
get_flag s = is (word_at s 0)

abbrev pub words_nothing : Unit {0} → List ℕ
words_nothing _ = []

abbrev pub get_nothing : List ℕ → Unit {0}
get_nothing _ = tt

abbrev pub words_byte_word : ℕ × ℕ → List ℕ
words_byte_word (a, b) = a ∷ b ∷ []

abbrev pub get_byte_word : List ℕ → ℕ × ℕ
get_byte_word s = (word_at s 0 % 256, word_at s 1)

unfoldable pub words_option : {A : Type 0} → ℕ → (A → List ℕ) → Option A → List ℕ
words_option n f None = 1 ∷ replicate n 0
words_option n f (Some x) = 2 ∷ f x

unfoldable pub get_option : {A : Type 0} → (List ℕ → A) → List ℕ → Option A
get_option f s = pick (eqb (word_at s 0) 1) None (Some (f (drop 1 s)))

-- zeros behind `used` words, up to a width of `other`
abbrev pub padding : ℕ → ℕ → List ℕ
padding used other = replicate (other - used) 0

unfoldable pub words_result : {A E : Type 0} → ℕ → ℕ → (A → List ℕ) → (E → List ℕ) → Result A E → List ℕ
words_result m n f g (Ok x) = 1 ∷ f x ++ padding m n
words_result m n f g (Err e) = 2 ∷ g e ++ padding n m

unfoldable pub get_result : {A E : Type 0} → (List ℕ → A) → (List ℕ → E) → List ℕ → Result A E
get_result f g s = pick (eqb (word_at s 0) 1) (Ok (f (drop 1 s))) (Err (g (drop 1 s)))
