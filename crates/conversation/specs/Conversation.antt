-- What the code's conversation means
use Rattle.std.specs.Prelude.{ℕ, ◌+◌, ◌%◌, ◌^◌, Bool, List, ◌||◌, ◌==◌, length}
use Rattle.hardware.specs.Bound.{waited}
use Rattle.hardware.specs.declared.Action.{Action}
use Rattle.hardware.specs.declared.Stop.TheVariants.{Done}
use Rattle.started.specs.declared.standing.Standing.{Standing}
use Rattle.started.specs.Standing.{told_standing, lent_of}
use Rattle.calls.specs.Conversation.{Answer, Conv, conv, Step}
use Rattle.conversation.specs.declared.conversation.Answer as code_answer
use Rattle.conversation.specs.declared.conversation.Conversation as code
use Rattle.conversation.specs.declared.conversation.Stepped.{Stepped}

-- with the words that are lent now. One that keeps its words makes no use of any
abbrev pub conv_of : code.Conversation → List ℕ → Conv
conv_of c ws = conv c.port (told_standing c.port c.place c.block ws) c.actions c.micros

abbrev pub stepped_of : Stepped → List ℕ → Step
stepped_of s ws = record { stop = s.stop; to = conv_of s.to ws }

-- as many words as each of its steps is to be lent
abbrev pub is_lent : code.Conversation → List ℕ → Bool
is_lent c ws = length ws == lent_of c.place

-- the same where one that keeps its words hands them back
abbrev pub is_own : code.Conversation → List ℕ → Bool
is_own c block = lent_of c.place == 0 || is_lent c block

abbrev pub answer_as : code_answer.Answer → Answer
answer_as a = record { what = a.what; words = a.words; actions = a.actions; micros = a.micros }

-- a step that did an action, and came to a place
abbrev pub stepped_on : code.Conversation → Action → Standing → List ℕ → Stepped
stepped_on c a place block =
    record {
      stop = Done;
      to =
          record {
            port = c.port;
            place = place;
            block = block;
            actions = (c.actions + 1) % 2 ^ 64;
            micros = (c.micros + waited a) % 2 ^ 64;
          };
      actions = (c.actions + 1) % 2 ^ 64;
      micros = (c.micros + waited a) % 2 ^ 64;
    }
