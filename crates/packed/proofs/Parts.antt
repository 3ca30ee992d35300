-- How many words an option or a result is
use Prim.Native.Nat.{ℕ, ◌+◌}
use native.Mathlib.Omega.{arith}
use mathlib.Core.Path.{◌≡◌}
use mathlib.Core.List.{List}
use lib.ListN.{length, length-append, length-replicate}
use Rattle.std.specs.Prelude.{◌-◌, Option, None, Some, Result, Ok, Err}
use Rattle.packed.specs.Packed.{words_option, words_result}

pub option_length : {A : Type 0} {n : ℕ} (f : A → List ℕ) → ((x : A) → length (f x) ≡ n) → (o : Option A) → length (words_option n f o) ≡ n + 1
unfolding words_option
option_length f l None = simp length-replicate (omega arith)
option_length f l (Some x) = simp (l x) (omega arith)

pub result_length : {A E : Type 0} {m n : ℕ} (f : A → List ℕ) (g : E → List ℕ) → ((x : A) → length (f x) ≡ m) → ((e : E) → length (g e) ≡ n) →
    (r : Result A E) → length (words_result m n f g r) ≡ m + (n - m) + 1
unfolding words_result
result_length f g l k (Ok x) = simp (length-append, length-replicate, l x) (omega arith)
result_length f g l k (Err e) = simp (length-append, length-replicate, k e) (omega arith)
