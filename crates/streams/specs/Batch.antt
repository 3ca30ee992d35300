-- Replies that are in the buffer already
use Rattle.std.specs.Prelude.{ℕ, zero, suc, ◌-◌, ◌/◌, ◌&&◌, min, leb, ltb, List, [], ◌∷◌, length, get_or, Option, Some, None}
use Rattle.std.specs.Option.{option_map}
use Rattle.hardware.specs.Talk.{pick}
use Rattle.text.specs.Words.{words}
use Rattle.lines.specs.Reply.{reply_of}
use Rattle.lines.specs.declared.buffer.Seen.{Seen}
use Rattle.lines.specs.declared.buffer.Seen.TheVariants.{Line, More, Ended}
use Rattle.streams.specs.Part.{part_of}
use Rattle.streams.specs.Input.{input, look_in}
use Rattle.streams.specs.declared.input.Input.{Input}

-- kind and value, and where the input goes on behind their line
abbrev pub LineReply : Type 0
LineReply = ℕ × ℕ × ℕ

abbrev pub reply_seen : List ℕ → Seen → Option LineReply
reply_seen buf (Line start end next) = option_map (λ pair. (pair.0, pair.1, next)) (reply_of (words (part_of buf start end)))
reply_seen buf More = None
reply_seen buf Ended = None

-- the reply of the next line, where that is whole and can be read
abbrev pub reply_at : List ℕ → Input → Option LineReply
reply_at buf i = reply_seen buf (look_in buf i)

abbrev pub then_on : (ℕ → List LineReply) → Option LineReply → List LineReply
then_on on None = []
then_on on (Some r) = r ∷ on r.2

-- the replies of the next whole lines, up to one that cannot be read, k at the most
unfoldable pub replies : ℕ → List ℕ → Input → List LineReply
replies zero buf i = []
replies (suc k) buf i = then_on (λ next. replies k buf (input next i.to i.ended i.cases)) (reply_at buf i)

abbrev pub words_ahead : List LineReply → List ℕ
words_ahead [] = []
words_ahead (r ∷ rs) = r.0 ∷ r.1 ∷ words_ahead rs

abbrev pub places_ahead : List LineReply → List ℕ
places_ahead [] = []
places_ahead (r ∷ rs) = r.2 ∷ places_ahead rs

-- as many as there is room for their words and places, 64 at the most
abbrev pub most : List ℕ → List ℕ → ℕ
most words behind = min (min (length words / 2) (length behind)) 64

abbrev pub replies_ahead : List ℕ → Input → List ℕ → List ℕ → List LineReply
replies_ahead buf i words behind = replies (most words behind) buf i

-- the input behind the replies whose words were used
abbrev pub used_input : Input → List ℕ → ℕ → Input
used_input i behind used =
    pick (ltb 0 (used / 2) && leb (used / 2) (length behind)) (input (get_or behind (used / 2 - 1) 0) i.to i.ended i.cases) i
