-- A command whose words are lent: what the Rust's block holds at each moment, which word a step replaces, and a host's calls, each
-- lent the words as the call before left them
use Rattle.hardware.specs.Talk.{Talk, Reply, Res, ask, end, pick, raw}
use Rattle.std.specs.Prelude.{◌≡◌, ℕ, List, [], ◌∷◌, length, set, Ok, Err}
use Rattle.words.specs.Hostif.{fits}
use Rattle.reference.specs.Hostif.{reply_length}
use Rattle.hostif.specs.declared.exchange.Exchange.{Exchange}
use Rattle.hostif.specs.declared.exchange.Exchange.TheVariants as exchange
use Rattle.long.specs.declared.command.Long.{Long}
use Rattle.long.specs.declared.command.LongPlace.{LongPlace}
use Rattle.long.specs.declared.command.LongPlace.TheVariants as place
use Rattle.started.specs.Standing.{lent_of}
use Rattle.calls.specs.Conversation.{step_lent}
use Rattle.calls.specs.Run.{run_lent}
use Rattle.calls.specs.Session.{HostCall}
use Rattle.calls.specs.Session.HostCall.{step, run}
use Rattle.conversation.specs.Conversation.{conv_of, is_lent, stepped_of}
use Rattle.conversation.specs.Run.{shown_of}
use Rattle.conversation.specs.declared.conversation.Conversation as code
use Rattle.conversation.specs.declared.conversation.Stepped.{Stepped}
use Rattle.conversation.specs.declared.run.Ran.{Ran}

-- the block of a call that is lent one, as it stands: it is left so if all that is asked for from here on fails
abbrev pub block_now : {A : Type 0} → Talk (A × List ℕ) → List ℕ
block_now (end r) = r.1
block_now (ask a k) = block_now (k (Err (record { 0 = 0 })))

abbrev pub replaced_word : ℕ → Res ℕ → List ℕ → List ℕ
replaced_word i (Ok v) b = set b i v
replaced_word i (Err e) b = b

-- what a reply makes of the words: the header of one that fits, or the next word of it, and nothing else
abbrev pub replaced_in : Exchange → Reply → List ℕ → List ℕ
replaced_in (exchange.Post s) r b = b
replaced_in (exchange.Head last) (Ok head) b = pick (fits (reply_length head) (length b)) (set b 0 head) b
replaced_in (exchange.Head last) (Err e) b = b
replaced_in (exchange.Rest status i n) r b = replaced_word i (raw r) b

abbrev pub replaced_at : LongPlace → Reply → List ℕ → List ℕ
replaced_at (place.Sync p s) r b = b
replaced_at (place.Exchange s) r b = replaced_in s r b

abbrev pub replaced : Long → Reply → List ℕ → List ℕ
replaced l r b = replaced_at l.place r b

-- what is known of a step that was lent words, and of a run
pub record StepLent (c : code.Conversation) (ws : List ℕ) (kind value : ℕ) (s : Stepped) (ws' : List ℕ) : Type 0 where
  pub stepped : stepped_of s ws' ≡ step_lent (is_lent c ws) (conv_of c ws) kind value
  pub lends : lent_of s.to.place ≡ lent_of c.place
  pub many : length ws' ≡ length ws

pub record RunLent (c : code.Conversation) (ws rs t : List ℕ) (at : ℕ) (r : Ran) (ws' t' : List ℕ) : Type 0 where
  pub shown : shown_of r ws' t' ≡ run_lent (is_lent c ws) (conv_of c ws) rs t at
  pub lends : lent_of r.to.place ≡ lent_of c.place
  pub many : length ws' ≡ length ws

-- calls in order, from a conversation and its words to those that the last one leaves
pub data Lends : code.Conversation → List ℕ → List HostCall → code.Conversation → List ℕ → Type 0 where
  none : {c : code.Conversation} {ws : List ℕ} → Lends c ws [] c ws
  stepped : {c : code.Conversation} {ws : List ℕ} {kind value : ℕ} {s : Stepped} {ws' : List ℕ} {rest : List HostCall} {to : code.Conversation} {last : List ℕ}
      → StepLent c ws kind value s ws' → Lends s.to ws' rest to last → Lends c ws (step kind value ∷ rest) to last
  ran : {c : code.Conversation} {ws rs t ws' t' : List ℕ} {at : ℕ} {r : Ran} {rest : List HostCall} {to : code.Conversation} {last : List ℕ}
      → RunLent c ws rs t at r ws' t' → Lends r.to ws' rest to last → Lends c ws (run rs t at ∷ rest) to last
