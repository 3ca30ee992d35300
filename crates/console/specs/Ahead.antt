-- The replies that are in the buffer already, in one run
use Rattle.std.specs.Prelude.{ℕ, ◌≡◌, Bool, List, replicate}
use Rattle.calls.specs.Conversation.{Conv}
use Rattle.calls.specs.Run.{Shown, left, run_lent}
use Rattle.streams.specs.Batch.{LineReply, replies, words_ahead, places_ahead, used_input}
use Rattle.streams.specs.declared.input.Input.{Input}
use Rattle.console.specs.Moved.{conv_at, lent_at}
use Rattle.console.specs.declared.moved.Moved.{Moved}

-- the replies of the next whole lines, 64 at the most
abbrev pub replies_there : List ℕ → Input → List LineReply
replies_there buf i = replies 64 buf i

-- the run over them, with room for 128 actions
abbrev pub ran_ahead : Bool → Conv → List ℕ → Input → Shown
ran_ahead lent c buf i = run_lent lent c (words_ahead (replies_there buf i)) (replicate 384 0) 0

-- from where the code has come
abbrev pub ran_from : Moved → List ℕ → Shown
ran_from from buf = ran_ahead (lent_at from) (conv_at from) buf from.input

-- the conversation as that run leaves it, and the input behind the replies that it used
pub record Ahead (from : Moved) (buf : List ℕ) (m : Moved) : Type 0 where
  pub to : conv_at m ≡ left (ran_from from buf)
  pub input : m.input ≡ used_input from.input (places_ahead (replies_there buf from.input)) (ran_from from buf).tape.used
