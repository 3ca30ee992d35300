-- Conversations of a Rust function that is lent a host block: what it gives back, and the block as it is left
use Rattle.std.specs.Prelude.{ℕ, List, Ok, Err}
use Rattle.hardware.specs.Talk.{Talk, end, Res, and_then}
use Rattle.hardware.specs.declared.Error.{Error}

abbrev pub Blk : Type 0 → Type 0
Blk A = List ℕ → Talk (Res A × List ℕ)

abbrev pub or_stop : {A B : Type 0} → (A → List ℕ → Talk (Res B × List ℕ)) → Res A → List ℕ → Talk (Res B × List ℕ)
or_stop k (Ok a) b = k a b
or_stop k (Err e) b = end (Err e, b)

-- the Rust's `?`
infixl 20 ◌>>=◌
abbrev pub ◌>>=◌ : {A B : Type 0} → (List ℕ → Talk (Res A × List ℕ)) → (A → List ℕ → Talk (Res B × List ℕ)) → List ℕ → Talk (Res B × List ℕ)
◌>>=◌ t k b = and_then (t b) (λ p. or_stop k p.0 p.1)

infixl 20 ◌>>◌
abbrev pub ◌>>◌ : {A B : Type 0} → (List ℕ → Talk (Res A × List ℕ)) → (List ℕ → Talk (Res B × List ℕ)) → List ℕ → Talk (Res B × List ℕ)
s >> t = s >>= (λ _. t)

-- what leaves the block alone
abbrev pub keep : {A : Type 0} → Talk (Res A) → List ℕ → Talk (Res A × List ℕ)
keep t b = and_then t (λ r. end (r, b))

abbrev pub return : {A : Type 0} → A → Blk A
return a b = end (Ok a, b)

abbrev pub fail : {A : Type 0} → Error → Blk A
fail e b = end (Err e, b)

-- a call whose error is kept for later
abbrev pub attempt : {A : Type 0} → (List ℕ → Talk (Res A × List ℕ)) → Blk (Res A)
attempt t b = and_then (t b) (λ p. end (Ok p.0, p.1))
