-- Numbers to a base
use Rattle.std.specs.Prelude.{ℕ, ◌+◌, ◌*◌, List, [], ◌∷◌, Option, Some}
use Rattle.std.specs.Option.{option_and_then}

-- the value of digits after some that are worth v
unfoldable pub value_of : (base : ℕ) (digit : ℕ → Option ℕ) → ℕ → List ℕ → Option ℕ
value_of base digit v [] = Some v
value_of base digit v (b ∷ bs) = option_and_then (λ d. value_of base digit (base * v + d) bs) (digit b)
