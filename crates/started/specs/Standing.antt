-- What a conversation says where it stands, with its own block and with the words that are lent now
use Rattle.hardware.specs.Talk.{Talk, Res, end, ask, and_then}
use Rattle.std.specs.Prelude.{ℕ, ◌%◌, List, Ok, Err}
use Rattle.hardware.specs.declared.Port.{Port}
use Rattle.answers.specs.declared.Value.{Value}
use Rattle.answers.specs.declared.Value.TheVariants.{Command}
use Rattle.reference.specs.Out.{Out}
use Rattle.long.specs.Command.{resume_long}
use Rattle.started.specs.Operation.{told}
use Rattle.started.specs.declared.standing.Standing.{Standing}
use Rattle.started.specs.declared.standing.Standing.TheVariants as standing

-- a command's status as its answer, a byte
abbrev pub command_answer : ℕ → Res ℕ → Res Value
command_answer n (Ok status) = Ok (Command (status % 256) n)
command_answer n (Err e) = Err e

-- the answer and the words, of a command of so many words
abbrev pub told_lent : ℕ → Talk (Res ℕ × List ℕ) → Talk Out
told_lent n t = and_then t (λ p. end (command_answer n p.0, p.1))

-- `b`: its own block; `ws`: the words that are lent, of which only a command that remembers none makes use
abbrev pub told_standing : Port → Standing → List ℕ → List ℕ → Talk Out
told_standing port (standing.Kept step) b ws = told port step b
told_standing port (standing.Lent n a l) b ws = ask a (λ r. told_lent n (resume_long l ws r))
told_standing port (standing.LentDone n status) b ws = end (command_answer n status, ws)

-- how many words each step is to be lent
abbrev pub lent_of : Standing → ℕ
lent_of (standing.Kept step) = 0
lent_of (standing.Lent n a l) = n
lent_of (standing.LentDone n status) = n
