-- The words of a conversation, and the conversation that words are read as
use Rattle.std.specs.Prelude.{ℕ, ◌%◌, ◌/◌, Bool, List, ◌∷◌, ◌++◌, drop}
use Rattle.text.specs.Same.{same}
use Rattle.packed.specs.Tape.{word_at, joined}
use Rattle.packed.specs.Hardware.{words_family, get_family}
use Rattle.conversation.specs.declared.conversation.Conversation.{Conversation}
use Rattle.packed.specs.Started.{words_standing, get_standing}
use Rattle.border.specs.declared.held.Held.{Held}

-- 68 words: the port's device, lan and pause, the two counts, its family, and where it stands
unfoldable pub words_of : Conversation → List ℕ
words_of c =
    c.port.device ∷ c.port.lan ∷ c.port.pause
    ∷ (c.actions % 4294967296) ∷ (c.actions / 4294967296)
    ∷ (c.micros % 4294967296) ∷ (c.micros / 4294967296)
    ∷ (words_family c.port.family ++ words_standing c.place)

unfoldable pub conversation_of : List ℕ → List ℕ → Conversation
conversation_of ws block =
    record {
      port = record { family = get_family (drop 7 ws); device = word_at ws 0 % 65536; lan = word_at ws 1; pause = word_at ws 2 };
      place = get_standing (drop 8 ws);
      block = block;
      actions = joined (word_at ws 3) (word_at ws 4);
      micros = joined (word_at ws 5) (word_at ws 6);
    }

unfoldable pub held_by : Held → Conversation
held_by h = conversation_of h.words h.block

-- its words are just those of the conversation that they are read as
unfoldable pub is_held : Held → Bool
is_held h = same (words_of (held_by h)) h.words
