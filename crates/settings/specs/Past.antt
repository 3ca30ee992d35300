-- Calls one after the other: what the theorems about the calls say
use Rattle.std.specs.Prelude.{ℕ, ◌+◌, ◌*◌, ◌≡◌, ◌<◌, ◌≤◌, ◌⊎◌, Bool, true, List, [], ◌∷◌}
use Rattle.settings.specs.Records.{word, records, version, chain}
use Rattle.settings.specs.Whole.{has}
use Rattle.settings.specs.Calls.{newest, named, store}
use Rattle.settings.specs.declared.setting.Setting.{Setting}

abbrev pub set_to : ℕ → ℕ → Bool → Setting
set_to version pause veto = record { version = version; pause = pause; veto = veto }

-- what a call of `store` is handed
pub record Storing : Type 0 where
  pub lan : ℕ
  pub pause : ℕ
  pub veto : Bool

-- the words that a call leaves
abbrev pub left_by : List ℕ → Storing → List ℕ
left_by s c = (store s c.lan c.pause c.veto).1

-- the words behind any number of calls, done or refused
unfoldable pub after : List ℕ → List Storing → List ℕ
after s [] = s
after s (c ∷ cs) = after (left_by s c) cs

-- no call is for this lan
abbrev pub NoneFor : ℕ → List Storing → Type 0
NoneFor lan [] = Unit {0}
NoneFor lan (c ∷ cs) = (c.lan ≡ lan → ⊥) × NoneFor lan cs

-- all that is read of a lan is the same
pub record SameReading (s t : List ℕ) (lan : ℕ) : Type 0 where
  pub newest_same : newest t lan ≡ newest s lan
  pub named_same : (v : ℕ) → named t lan v ≡ named s lan v

-- a record of a lan's chain stays in it, and all its words
pub record Stays (s t : List ℕ) (lan i : ℕ) : Type 0 where
  pub there : has i (chain t lan) ≡ true
  pub words : (k : ℕ) → k < 8 → word t (8 * i + k) ≡ word s (8 * i + k)

-- what a store writes: the first record above 0 that is in neither chain, and the head
pub record WritesOne (s t : List ℕ) (lan : ℕ) : Type 0 where
  pub i : ℕ
  pub above : 0 < i
  pub outside : (l : ℕ) → l ≤ 1 → has i (chain s l) ≡ true → ⊥
  pub first : (j : ℕ) → 0 < j → j < i → (has j (chain s 0) ≡ true) ⊎ (has j (chain s 1) ≡ true)
  pub only : (at : ℕ) → (at ≡ lan → ⊥) → (at < 8 * i) ⊎ (8 * i + 8 ≤ at) → word t at ≡ word s at

-- no record above 0 whose index fits in a word is outside both chains
abbrev pub NoneFree : List ℕ → Type 0
NoneFree s = (j : ℕ) → 0 < j → j < records s → j < 4294967296 → (has j (chain s 0) ≡ true) ⊎ (has j (chain s 1) ≡ true)

-- a record of a lan's chain that has the last version
pub record LastUsed (s : List ℕ) (lan : ℕ) : Type 0 where
  pub i : ℕ
  pub there : has i (chain s lan) ≡ true
  pub last : version s i ≡ 4294967295
