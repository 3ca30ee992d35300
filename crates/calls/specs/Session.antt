-- A host's calls in order, the actions that each does, and what two runs have in common with one
use Rattle.hardware.specs.Talk.{Talk, ask, end, pick}
use Rattle.std.specs.Prelude.{◌≡◌, ℕ, ◌+◌, ◌-◌, List, [], ◌∷◌, ◌++◌, length, drop}
use lib.Seq.{slice}
use Rattle.hardware.specs.declared.Action.{Action}
use Rattle.drive.specs.Moves.{Tape}
use Rattle.reference.specs.Out.{Out}
use Rattle.calls.specs.Conversation.{Conv, Step, refuses, step_talk}
use Rattle.calls.specs.Run.{Run, stopped, run_talk, Shown, left, bad, run_all}
use Rattle.hardware.specs.declared.Stop.{Stop}
use Rattle.hardware.specs.declared.Stop.TheVariants.{Done, AfterEnd, BadReply, NoRoom}

-- what `run` runs, with room for so many words: nothing after the end, and nothing of a script that is turned away
abbrev pub run_of : Talk Out → List ℕ → ℕ → Run Out
run_of (end r) rs room = stopped (end r) AfterEnd
run_of (ask a k) rs room = pick (bad rs) (stopped (ask a k) BadReply) (run_talk (ask a k) rs room)

-- the actions that `run` does
abbrev pub done_by : Conv → List ℕ → List ℕ → ℕ → List Action
done_by c rs t at = (run_of c.talk rs (length t - at)).done

-- the words that a run wrote, from its place on
abbrev pub written : ℕ → Shown → List ℕ
written at s = slice at s.tape.at s.tape.transcript

-- the action that `step` does: the one asked for, unless the call is turned away
abbrev pub done_on : Talk Out → ℕ → List Action
done_on (end r) kind = []
done_on (ask a k) kind = pick (refuses a kind) [] (a ∷ [])

-- ---- calls in order

-- a step with a reply's kind and value, or a run over a script, into a transcript from a place of it
pub data HostCall : Type 0 where
  step : ℕ → ℕ → HostCall
  run : List ℕ → List ℕ → ℕ → HostCall

abbrev pub after_call : Conv → HostCall → Conv
after_call c (step kind value) = (step_talk c kind value).to
after_call c (run rs t at) = left (run_all c rs t at)

abbrev pub done_in : Conv → HostCall → List Action
done_in c (step kind value) = done_on c.talk kind
done_in c (run rs t at) = done_by c rs t at

-- the conversation that the last call leaves
abbrev pub after_calls : Conv → List HostCall → Conv
after_calls c [] = c
after_calls c (call ∷ rest) = after_calls (after_call c call) rest

-- the actions done in all of them
abbrev pub done_in_all : Conv → List HostCall → List Action
done_in_all c [] = []
done_in_all c (call ∷ rest) = done_in c call ++ done_in_all (after_call c call) rest

-- it has ended
pub record Ended (t : Talk Out) : Type 0 where
  pub answer : Out
  pub there : t ≡ end answer

-- ---- a step and a run of one action

-- how a run stops that has used its room: at the end, or for want of room
abbrev pub full : Talk Out → Stop
full (end r) = Done
full (ask a k) = NoRoom

pub record OneAction (s : Step) (r : Shown) : Type 0 where
  pub step_stop : s.stop ≡ Done
  pub run_stop : r.stop ≡ full r.talk
  pub conversation : s.to ≡ left r

-- a step that is turned away
abbrev pub refused_step : Stop → Conv → Step
refused_step s c = record { stop = s; to = c }

-- ---- two runs in a row

-- the second: over what the first has not used of the script
abbrev pub again : Shown → List ℕ → List ℕ → ℕ → Shown
again first rs t at = run_all (left first) (drop first.tape.used rs) t at

-- how two have stopped, where the first left t: as the first, if it came to the end, else as the second
abbrev pub stop_of : Talk Out → Stop → Stop → Stop
stop_of (end r) first second = first
stop_of (ask a k) first second = second

-- the same tape, where n reply words more have been used
abbrev pub used_more : ℕ → Tape → Tape
used_more n t = record { actions = t.actions; micros = t.micros; transcript = t.transcript; at = t.at; used = n + t.used }

-- two in the same buffer, as one shows them
abbrev pub as_one : Shown → Shown → Shown
as_one first second =
    record {
      stop = stop_of first.talk first.stop second.stop;
      port = second.port;
      talk = second.talk;
      tape = used_more first.tape.used second.tape;
    }

-- what one has in common with two, each in a buffer of its own
pub record Together (one first second : Shown) (at at₁ at₂ : ℕ) : Type 0 where
  pub stop : one.stop ≡ stop_of first.talk first.stop second.stop
  pub conversation : left one ≡ left second
  pub used : one.tape.used ≡ first.tape.used + second.tape.used
  pub words : written at one ≡ written at₁ first ++ written at₂ second
