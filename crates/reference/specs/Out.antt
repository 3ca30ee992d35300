-- What the operations end with
use Rattle.std.specs.Prelude.{List, [], ℕ}
use Rattle.hardware.specs.Talk.{Talk, Call, Res, ◌>>=◌, return}
use Rattle.hardware.specs.Block.{keep}
use Rattle.answers.specs.declared.Value.{Value}
use Rattle.answers.specs.declared.Value.TheVariants as valuev
use Rattle.reference.specs.Watch as watch

-- what an operation ends with: its answer, and the host block of a `command` as it is then
abbrev pub Out : Type 0
Out = Res Value × List ℕ

-- an operation with no host block of its own
abbrev pub answer : {A : Type 0} → (A → Value) → Call A → Talk Out
answer f t = keep (t >>= λ a. return (f a)) []

abbrev pub nothing : Unit {0} → Value
nothing _ = valuev.Nothing

abbrev pub poll_value : watch.Polled → Value
poll_value p = valuev.Poll p.copper p.forced p.reforced
