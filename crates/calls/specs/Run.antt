-- A run over a script of replies, into a transcript
use Rattle.hardware.specs.Talk.{Talk, ask, end, pick, Reply}
use Rattle.std.specs.Prelude.{ℕ, ◌-◌, Bool, true, false, List, [], ◌∷◌, length, drop, nat_lt}
use Rattle.hardware.specs.declared.Action.{Action}
use Rattle.hardware.specs.declared.Port.{Port}
use Rattle.drive.specs.Act.{uses, reply_for}
use Rattle.drive.specs.Moves.{Tape, on_tape}
use Rattle.calls.specs.Conversation.{Conv}
use Rattle.reference.specs.Out.{Out}
use Rattle.hardware.specs.declared.Stop.{Stop}
use Rattle.hardware.specs.declared.Stop.TheVariants.{Done, AfterEnd, BadReply, Words, NoReply, NoRoom}

-- a run: the actions that were done, in order, what is still to be said, and why it stopped
pub record Run (A : Type 0) : Type 0 where
  pub done : List Action
  pub talk : Talk A
  pub stop : Stop

abbrev pub stopped : {A : Type 0} → Talk A → Stop → Run A
stopped t s = record { done = []; talk = t; stop = s }

abbrev pub before : {A : Type 0} → Action → Run A → Run A
before a r = record { done = a ∷ r.done; talk = r.talk; stop = r.stop }

-- an action, with room for so many words: 27, then 26, else it is done and the talk goes on from its reply
abbrev pub turn : {A : Type 0} → Action → Talk A → List ℕ → ℕ → (Reply → Run A) → Run A
turn a t rs room go =
    pick (nat_lt room 3) (stopped t NoRoom)
    (pick (nat_lt (length rs) (uses a)) (stopped t NoReply)
    (before a (go (reply_for a rs))))

-- the run of a talk over the script rs, with room for so many words of transcript
abbrev pub run_talk : {A : Type 0} → Talk A → List ℕ → ℕ → Run A
run_talk (end r) rs room = stopped (end r) Done
run_talk (ask a k) rs room = turn a (ask a k) rs room (λ r. run_talk (k r) (drop (uses a) rs) (room - 3))

-- what a run leaves behind on its tape
abbrev pub after : Tape → List Action → Tape
after t [] = t
after t (a ∷ rest) = after (on_tape t a) rest

abbrev pub tape_of : Conv → List ℕ → ℕ → ℕ → Tape
tape_of c t at used = record { actions = c.actions; micros = c.micros; transcript = t; at = at; used = used }

-- what a run shows: why it stopped, the conversation that it leaves, and its tape
pub record Shown : Type 0 where
  pub stop : Stop
  pub port : Port
  pub talk : Talk Out
  pub tape : Tape

abbrev pub shown : Port → Tape → Run Out → Shown
shown p t r = record { stop = r.stop; port = p; talk = r.talk; tape = after t r.done }

-- the conversation that it leaves
abbrev pub left : Shown → Conv
left s = record { port = s.port; talk = s.talk; actions = s.tape.actions; micros = s.tape.micros }

-- a talk's run, from a tape on: over what is left of the script, with the room that is left
unfoldable pub run_on : Port → Talk Out → List ℕ → Tape → Shown
run_on p m rs t = shown p t (run_talk m (drop t.used rs) (length t.transcript - t.at))

-- a conversation's run from a place of the script, into a transcript from a place of it
abbrev pub run_into : Conv → List ℕ → List ℕ → ℕ → ℕ → Shown
run_into c rs t at used = run_on c.port c.talk rs (tape_of c t at used)

-- an odd length, or a kind above 1
abbrev pub bad : List ℕ → Bool
bad [] = false
bad (kind ∷ []) = true
bad (kind ∷ value ∷ rs) = pick (nat_lt 1 kind) true (bad rs)

abbrev pub refused_run : Stop → Conv → List ℕ → ℕ → Shown
refused_run s c t at = shown c.port (tape_of c t at 0) (stopped c.talk s)

abbrev pub run_from : Talk Out → Conv → List ℕ → List ℕ → ℕ → Shown
run_from (end r) c rs t at = refused_run AfterEnd c t at
run_from (ask a k) c rs t at = pick (bad rs) (refused_run BadReply c t at) (run_into c rs t at 0)

-- `run`: 24, then 25, then the run
abbrev pub run_all : Conv → List ℕ → List ℕ → ℕ → Shown
run_all c rs t at = run_from c.talk c rs t at

-- one that is lent another number of words than its conversation remembers: 24 and 25 as of any, else 23
abbrev pub unlent_run : Talk Out → Conv → List ℕ → List ℕ → ℕ → Shown
unlent_run (end r) c rs t at = refused_run AfterEnd c t at
unlent_run (ask a k) c rs t at = pick (bad rs) (refused_run BadReply c t at) (refused_run Words c t at)

-- `lent`: whether they are as many
abbrev pub run_lent : Bool → Conv → List ℕ → List ℕ → ℕ → Shown
run_lent lent c rs t at = pick lent (run_all c rs t at) (unlent_run c.talk c rs t at)
