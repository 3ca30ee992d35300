-- The records of a store, eight words each, and its two chains
use Rattle.std.specs.Prelude.{ℕ, zero, suc, ◌+◌, ◌*◌, ◌/◌, List, [], ◌∷◌, get_or, length, eqb}
use Rattle.settings.specs.declared.setting.Setting.{Setting}

abbrev pub word : List ℕ → ℕ → ℕ
word s at = get_or s at 0

abbrev pub records : List ℕ → ℕ
records s = length s / 8

-- record 0: the head of each lan's chain, then six zeros
abbrev pub head : List ℕ → ℕ → ℕ
head s lan = word s lan

-- every other record: next, version, pause, veto, then four zeros
abbrev pub next : List ℕ → ℕ → ℕ
next s i = word s (8 * i)

abbrev pub version : List ℕ → ℕ → ℕ
version s i = word s (8 * i + 1)

abbrev pub pause : List ℕ → ℕ → ℕ
pause s i = word s (8 * i + 2)

abbrev pub veto : List ℕ → ℕ → ℕ
veto s i = word s (8 * i + 3)

-- what a record has set
abbrev pub setting : List ℕ → ℕ → Setting
setting s i = record { version = version s i; pause = pause s i; veto = eqb (veto s i) 1 }

-- the records of a chain from an index on, to the zero that ends it, at most n of them
unfoldable pub chain_from : ℕ → List ℕ → ℕ → List ℕ
chain_from zero s i = []
chain_from (suc n) s zero = []
chain_from (suc n) s (suc i) = suc i ∷ chain_from n s (next s (suc i))

-- a lan's chain; a whole store has none that is longer than its records are many
abbrev pub chain : List ℕ → ℕ → List ℕ
chain s lan = chain_from (records s) s (head s lan)
