-- What an action is to a script and to a transcript
use Rattle.std.specs.Prelude.{ℕ, ◌+◌, List, [], ◌∷◌, ◌++◌, ◌==◌, slice_index, Ok, Err}
use Rattle.hardware.specs.Bound.{waited}
use Rattle.hardware.specs.Talk.{pick, Reply}
use Rattle.hardware.specs.declared.Action.{Action}
use Rattle.hardware.specs.declared.Action.TheVariants.{Read, Write, Wait}

-- the reply words that it uses: none for a wait, else two
abbrev pub uses : Action → ℕ
uses (Read reg) = 2
uses (Write reg v) = 2
uses (Wait micros) = 0

-- its three words in the transcript
abbrev pub kind : Action → ℕ
kind (Read reg) = 1
kind (Write reg v) = 2
kind (Wait micros) = 3

abbrev pub register : Action → ℕ
register (Read reg) = reg
register (Write reg v) = reg
register (Wait micros) = 0

abbrev pub value : Action → ℕ
value (Read reg) = 0
value (Write reg v) = v
value (Wait micros) = micros

abbrev pub words : Action → List ℕ
words a = kind a ∷ register a ∷ value a ∷ []

-- a reply's two words: kind 0 is done, else failed
abbrev pub reply_of : ℕ → ℕ → Reply
reply_of kind value = pick (kind == 0) (Ok value) (Err (record { 0 = value }))

-- what an action is answered at the head of a script: a wait has `Ok 0`, whatever stands there
abbrev pub reply_for : Action → List ℕ → Reply
reply_for a rs = pick (uses a == 0) (Ok 0) (reply_of (slice_index rs 0) (slice_index rs 1))

-- the same of a list of actions, in order: reply words used, microseconds waited, words in the transcript
abbrev pub used_by : List Action → ℕ
used_by [] = 0
used_by (a ∷ l) = uses a + used_by l

abbrev pub waited_by : List Action → ℕ
waited_by [] = 0
waited_by (a ∷ l) = waited a + waited_by l

abbrev pub words_of : List Action → List ℕ
words_of [] = []
words_of (a ∷ l) = words a ++ words_of l
