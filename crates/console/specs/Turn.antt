-- A run into a transcript of three words, and the lines of what it wrote there
use Rattle.std.specs.Prelude.{ℕ, ◌≡◌, List, [], ◌∷◌, take}
use Rattle.conversation.specs.Conversation.{conv_of}
use Rattle.calls.specs.Run.{Shown, left, run_lent}
use Rattle.lines.specs.Listing.{lines_text}
use Rattle.console.specs.Moved.{words_in, conv_at, lent_at}
use Rattle.console.specs.declared.moved.Moved.{Moved}
use Rattle.console.specs.declared.turn.Turned.{Turned}

abbrev pub ran_three : Moved → List ℕ → Shown
ran_three from rs = run_lent (lent_at from) (conv_at from) rs (0 ∷ 0 ∷ 0 ∷ []) 0

-- the lines of what a run wrote from the start of its transcript on
abbrev pub printed : Shown → List ℕ
printed s = lines_text (take s.tape.at s.tape.transcript)

pub record Turn (from : Moved) (rs : List ℕ) (r : Turned) (line : List ℕ) : Type 0 where
  pub stop : r.stop ≡ (ran_three from rs).stop
  pub to : conv_of r.to (words_in r.to r.words) ≡ left (ran_three from rs)
  pub text : line ≡ printed (ran_three from rs)
