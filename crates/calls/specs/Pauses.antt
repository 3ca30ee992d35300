-- Runs of a port with another pause
use Rattle.hardware.specs.Talk.{Talk, ask, end, pick}
use Rattle.std.specs.Prelude.{◌≡◌, ℕ, ◌+◌, ◌*◌, Bool, false, List, [], ◌∷◌, Option, None, Some}
use Rattle.hardware.specs.declared.Action.{Action}
use Rattle.hardware.specs.declared.Action.TheVariants.{Read, Write, Wait}
use Rattle.drive.specs.Act.{words_of}
use Rattle.reference.specs.Out.{Out}
use Rattle.reference.specs.Pauses.{is_ctrl, paused}
use Rattle.calls.specs.Conversation.{Conv}
use Rattle.calls.specs.Run.{run_all}
use Rattle.calls.specs.Session.{done_by, written}

-- the actions, where each wait directly behind a read of IOSF_CTRL takes p microseconds; all else is as it is
abbrev pub repaused_from : ℕ → Bool → List Action → List Action
repaused_from p behind [] = []
repaused_from p behind (a ∷ rest) = paused p behind a ∷ repaused_from p (is_ctrl a) rest

abbrev pub repaused : ℕ → List Action → List Action
repaused p = repaused_from p false

-- 1 for such a wait
abbrev pub sideband : Bool → Action → ℕ
sideband behind (Read reg) = 0
sideband behind (Write reg v) = 0
sideband behind (Wait micros) = pick behind 1 0

-- how many there are
abbrev pub waits_from : Bool → List Action → ℕ
waits_from behind [] = 0
waits_from behind (a ∷ rest) = sideband behind a + waits_from (is_ctrl a) rest

abbrev pub sideband_waits : List Action → ℕ
sideband_waits = waits_from false

-- what a talk has ended with
abbrev pub outcome : Talk Out → Option Out
outcome (end r) = Some r
outcome (ask a k) = None

-- what a conversation with pause p shows over a script, by what `one`, with pause q, shows over the same
pub record OtherPause (p q : ℕ) (other one : Conv) (rs t : List ℕ) (at : ℕ) : Type 0 where
  pub stop : (run_all other rs t at).stop ≡ (run_all one rs t at).stop
  pub answer : outcome (run_all other rs t at).talk ≡ outcome (run_all one rs t at).talk
  pub actions : (run_all other rs t at).tape.actions ≡ (run_all one rs t at).tape.actions
  pub place : (run_all other rs t at).tape.at ≡ (run_all one rs t at).tape.at
  pub used : (run_all other rs t at).tape.used ≡ (run_all one rs t at).tape.used
  pub done : done_by other rs t at ≡ repaused p (done_by one rs t at)
  pub words : written at (run_all other rs t at) ≡ words_of (repaused p (done_by one rs t at))
  pub waits : repaused q (done_by one rs t at) ≡ done_by one rs t at
  pub micros : (run_all other rs t at).tape.micros + sideband_waits (done_by one rs t at) * q
      ≡ (run_all one rs t at).tape.micros + sideband_waits (done_by one rs t at) * p
