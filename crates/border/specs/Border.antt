-- What a call from C comes to
use Rattle.std.specs.Prelude.{ℕ, ◌-◌, Bool, ◌&&◌, ◌||◌, List, [], eqb, length, take, drop, replicate, Option, Some, None, Ok, Err}
use Rattle.hardware.specs.Numbers as error
use Rattle.hardware.specs.Numbers.{stop_number, misuse_number}
use Rattle.hardware.specs.declared.Misuse.TheVariants.{Unknown, NotHeld, NotEnded}
use Rattle.hardware.specs.declared.Stop.{Stop}
use Rattle.hardware.specs.declared.Stop.TheVariants.{AfterEnd, BadReply, Words, NoReply, NoRoom}
use Rattle.hardware.specs.Talk.{Talk, ask, end, Res, pick}
use Rattle.hardware.specs.declared.Port.{Port}
use Rattle.answers.specs.Fields.{value}
use Rattle.answers.specs.declared.Value.{Value}
use Rattle.drive.specs.Act as act
use Rattle.calls.specs.Conversation.{Conv, Step, begun, to_lend, step_lent}
use Rattle.conversation.specs.Conversation.{conv_of, is_lent}
use Rattle.started.specs.Standing.{lent_of}
use Rattle.operations.specs.Request.{refused}
use Rattle.reference.specs.Out.{Out}
use Rattle.drive.specs.Moves.{Tape}
use Rattle.calls.specs.Run.{Shown, tape_of, left, run_lent}
use Rattle.operations.specs.declared.Operation.{Operation}
use Rattle.trace.specs.Kinds.{Line}
use Rattle.border.specs.Held.{held_by, is_held}
use Rattle.border.specs.declared.held.Held.{Held}
use Rattle.border.specs.declared.Asked.{Asked}
use Rattle.border.specs.declared.Answered.{Answered}
use Rattle.border.specs.declared.Ran.{Ran}

-- a call goes well, and gives words that the next call takes, how many words that is to be lent, and their conversation with those that
-- are lent now; or it is turned away with a number, and gives back words unread
pub data Outcome : Type 0 where
  went : (lent : ℕ) → Conv → Outcome
  stayed : ℕ → Held → Outcome

unfoldable pub outcome_of : ℕ → Held → List ℕ → Outcome
outcome_of n h ws = pick (eqb n 0) (pick (is_held h) (went (lent_of (held_by h).place) (conv_of (held_by h) ws)) (stayed n h)) (stayed n h)

-- words that are no conversation
abbrev pub nothing : Held
nothing = record { words = replicate 68 0; block = replicate 80 0 }

-- the number of a call that is turned away, or the conversation begun
abbrev pub opened : Res (Unit {0}) → ℕ → Conv → Outcome
opened (Err e) n c = stayed (error.number e) nothing
opened (Ok u) n c = went n c

unfoldable pub opens : Port → Operation → List ℕ → Outcome
opens p what ws = opened (refused p what ws) (to_lend p what ws) (begun p what ws)

-- 100 for a port or an operation that is none, or arguments that are not the operation's
abbrev pub begins_line : Port → Line → List ℕ → Outcome
begins_line p None args = stayed (misuse_number Unknown) nothing
begins_line p (Some (what, n)) args = opens p what (drop (length args - n) args)

-- the words among the arguments that are lent to `begin`
abbrev pub block_of : Line → List ℕ → List ℕ
block_of None args = []
block_of (Some (what, n)) args = drop (length args - n) args

abbrev pub begins : Option Port → Line → List ℕ → Outcome
begins None l args = stayed (misuse_number Unknown) nothing
begins (Some p) l args = begins_line p l args

-- a step's number, and the conversation where it is 0
abbrev pub stepped : Step → Held → Outcome
stepped s c = pick (eqb (stop_number s.stop) 0) (went (lent_of (held_by c).place) s.to) (stayed (stop_number s.stop) c)

-- 101 for words that are no conversation; `ws`: the words that are lent
unfoldable pub steps : Held → ℕ → ℕ → List ℕ → Outcome
steps c kind v ws =
    pick (is_held c) (stepped (step_lent (is_lent (held_by c) ws) (conv_of (held_by c) ws) kind v) c) (stayed (misuse_number NotHeld) c)

abbrev pub none : ℕ → Asked
none n = record { number = n; kind = 0; register = 0; value = 0 }

-- 24 at the end
abbrev pub asking : Talk Out → Asked
asking (end r) = none (stop_number AfterEnd)
asking (ask a k) = record { number = 0; kind = act.kind a; register = act.register a; value = act.value a }

unfoldable pub asks : Held → Asked
asks c = pick (is_held c) (asking (conv_of (held_by c) []).talk) (none (misuse_number NotHeld))

-- a call's number, the error's number or 0, how many words the answer has and those words, how many of the block belong to it, and
-- the conversation's counts
pub record Told : Type 0 where
  pub number : ℕ
  pub error : ℕ
  pub count : ℕ
  pub words : List ℕ
  pub block : ℕ
  pub actions : ℕ
  pub micros : ℕ

abbrev pub answered_of : Answered → Told
answered_of r =
    record {
      number = r.number;
      error = r.error;
      count = r.count;
      words = take r.count r.words;
      block = r.block;
      actions = r.actions;
      micros = r.micros;
    }

abbrev pub no_answer : ℕ → ℕ → ℕ → Told
no_answer n actions micros = record { number = n; error = 0; count = 0; words = []; block = 0; actions = actions; micros = micros }

abbrev pub saying : ℕ → List ℕ → ℕ → ℕ → ℕ → Told
saying e ws block actions micros = record { number = 0; error = e; count = length ws; words = ws; block = block; actions = actions; micros = micros }

abbrev pub answer : Res Value → ℕ → ℕ → ℕ → Told
answer (Ok v) block actions micros = saying 0 (value v) block actions micros
answer (Err e) block actions micros = saying (error.number e) (error.values e) block actions micros

-- 102 before the end
abbrev pub answering : Talk Out → ℕ → ℕ → Told
answering (end r) actions micros = answer r.0 (length r.1) actions micros
answering (ask a k) actions micros = no_answer (misuse_number NotEnded) actions micros

abbrev pub answers_of : Conv → Told
answers_of c = answering c.talk c.actions c.micros

-- with any words of a command that remembers none: an answer has their number
unfoldable pub answers : Held → Told
answers c = pick (is_held c) (answers_of (conv_of (held_by c) (replicate (lent_of (held_by c).place) 0))) (no_answer (misuse_number NotHeld) 0 0)

-- a run went so far; or nothing was run, and the words come back unread with the number, as do the transcript and the place
pub data Run : Type 0 where
  ran : ℕ → Conv → Tape → Run
  kept : Ran → List ℕ → Run

-- 26 and 27 too are runs that went so far
abbrev pub went_on : ℕ → Bool
went_on n = eqb n 0 || eqb n (stop_number NoReply) || eqb n (stop_number NoRoom)

unfoldable pub ran_of : Ran → (words transcript : List ℕ) → Run
ran_of r ws t =
    pick (went_on r.number && is_held r.to)
    (ran r.number (conv_of (held_by r.to) ws) (tape_of (conv_of (held_by r.to) ws) t r.at r.used))
    (kept r t)

abbrev pub not_run : ℕ → Held → ℕ → Ran
not_run n c at = record { number = n; to = c; at = at; used = 0 }

-- what was run, or 24, 25 and 23, which leave the very words
abbrev pub ran_by : Shown → Stop → Held → List ℕ → ℕ → Run
ran_by s AfterEnd c t at = kept (not_run (stop_number AfterEnd) c at) t
ran_by s BadReply c t at = kept (not_run (stop_number BadReply) c at) t
ran_by s Words c t at = kept (not_run (stop_number Words) c at) t
ran_by s stop c t at = ran (stop_number stop) (left s) s.tape

abbrev pub ran_as : Shown → Held → List ℕ → ℕ → Run
ran_as s c t at = ran_by s s.stop c t at

unfoldable pub runs : Held → (replies transcript : List ℕ) → ℕ → List ℕ → Run
runs c rs t at ws =
    pick (is_held c) (ran_as (run_lent (is_lent (held_by c) ws) (conv_of (held_by c) ws) rs t at) c t at) (kept (not_run (misuse_number NotHeld) c at) t)
