-- The words that a listing's conversation is lent, and what it says with them
use Rattle.std.specs.Prelude.{ℕ, Bool, List, ◌++◌, ltb, length, take, drop, replicate}
use Rattle.hardware.specs.Talk.{pick}
use Rattle.calls.specs.Conversation.{Conv}
use Rattle.conversation.specs.Conversation.{conv_of, is_lent}
use Rattle.conversation.specs.declared.conversation.Conversation as code
use Rattle.started.specs.Standing.{lent_of}
use Rattle.streams.specs.declared.input.Input.{Input}
use Rattle.console.specs.declared.moved.Moved.{Moved}

-- the words of a command at the most, over zeros
abbrev pub first_448 : List ℕ → List ℕ
first_448 ws = pick (ltb (length ws) 448) (ws ++ drop (length ws) (replicate 448 0)) (take 448 ws)

-- the first of the words that were lent to `begin`, as many as are to be lent
abbrev pub words_in : code.Conversation → List ℕ → List ℕ
words_in c words = take (lent_of c.place) words

abbrev pub conv_at : Moved → Conv
conv_at m = conv_of m.to (words_in m.to m.words)

-- whether there are as many, as of a conversation that was begun
abbrev pub lent_at : Moved → Bool
lent_at m = is_lent m.to (words_in m.to m.words)

-- behind some of the input
abbrev pub behind : Moved → Input → Moved
behind m i = record { to = m.to; words = m.words; input = i }
