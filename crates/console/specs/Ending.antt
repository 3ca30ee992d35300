-- What is printed at a conversation's end
use Rattle.std.specs.Prelude.{ℕ, Bool, ◌||◌, List, [], ◌++◌, Option, take, replicate, ◌==◌, nat_lt, Ok, Err}
use Rattle.hardware.specs.Talk.{pick, Res}
use Rattle.answers.specs.declared.Value.{Value}
use Rattle.calls.specs.Conversation.{handed_lent}
use Rattle.conversation.specs.Conversation.{conv_of, is_own}
use Rattle.conversation.specs.declared.conversation.Conversation as code
use Rattle.std.specs.Option.{unwrap_or}
use Rattle.lines.specs.Listing.{end_text, left_text, stop_text}
use Rattle.hardware.specs.declared.Action.{Action}
use Rattle.hardware.specs.declared.Step.{Step}
use Rattle.hardware.specs.declared.Step.TheVariants.{Ask, Done}
use Rattle.jobs.specs.declared.job.Ended.{Ended}
use Rattle.started.specs.Standing.{command_answer}
use Rattle.started.specs.declared.operation.Op.{Op}
use Rattle.started.specs.declared.standing.Standing.{Standing}
use Rattle.started.specs.declared.standing.Standing.TheVariants as standing
use Rattle.console.specs.declared.moved.Moved.{Moved}

-- the line of a host block that is handed back, none where it is not
abbrev pub block_line : Res (Unit {0}) × List ℕ → List ℕ
block_line (Ok u, ws) = left_text ws
block_line (Err e, ws) = []

-- a host block that a conversation keeps has 1 to 16 words, a list up to 64 values
abbrev pub handed : code.Conversation → List ℕ → Res (Unit {0}) × List ℕ
handed c block = handed_lent (is_own c block) (conv_of c block).talk block

abbrev pub kept_line : code.Conversation → ℕ → List ℕ
kept_line c words = pick (words == 0 || nat_lt 64 words) [] (block_line (handed c (take words (replicate 80 0))))

-- the last line, and where it is asked for the host block's behind it
abbrev pub kept_text : Res Value → code.Conversation → ℕ → Bool → List ℕ
kept_text answer c words asked = end_text answer c.block c.actions c.micros ++ pick asked (kept_line c words) []

-- the same of a command whose words were lent
abbrev pub lent_text : Moved → ℕ → Res ℕ → Bool → List ℕ
lent_text at n status asked =
    end_text (command_answer n status) (take n at.words) at.to.actions at.to.micros ++ pick asked (left_text (take n at.words)) []

abbrev pub last_kept : Step Action Op (Ended Value) → code.Conversation → Option ℕ → Bool → List ℕ
last_kept (Done end) c number asked = kept_text end.answer c end.words asked
last_kept (Ask a op) c number asked = stop_text (unwrap_or number 0) c.actions c.micros

abbrev pub last_at : Standing → Moved → Option ℕ → Bool → List ℕ
last_at (standing.Kept step) m number asked = last_kept step m.to number asked
last_at (standing.Lent n a l) m number asked = stop_text (unwrap_or number 0) m.to.actions m.to.micros
last_at (standing.LentDone n status) m number asked = lent_text m n status asked

-- where the listing stops: behind the conversation's end, or before it with a number
abbrev pub last_text : Moved → Option ℕ → Bool → List ℕ
last_text m number asked = last_at m.to.place m number asked
