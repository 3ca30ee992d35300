-- The windows of a poll: words, two each, the minute at which one starts (included) and at which it ends (excluded), of the week
-- from Monday 00:00
use Rattle.std.specs.Prelude.{ℕ, ◌*◌, Bool, true, false, not, ◌&&◌, ◌||◌, eqb, leb, ltb, List, [], ◌∷◌, length, Option, None, Some}
use Rattle.hardware.specs.Talk.{pick}

-- the minutes of a week
abbrev pub week : ℕ
week = 10080

-- a window holds a minute. One whose start is above its end runs over the end of the week
abbrev pub holds : (start end minute : ℕ) → Bool
holds start end minute = pick (ltb start end) (leb start minute && ltb minute end) (leb start minute || ltb minute end)

-- some window holds it
abbrev pub in_some : ℕ → List ℕ → Bool
in_some minute [] = false
in_some minute (start ∷ []) = false
in_some minute (start ∷ end ∷ ws) = holds start end minute || in_some minute ws

-- a poll of this minute lies in a window. Without a minute there is none
abbrev pub inside : Option ℕ → List ℕ → Bool
inside None ws = false
inside (Some minute) ws = in_some minute ws

-- both are minutes of the week, and not the same
abbrev pub is_window : (start end : ℕ) → Bool
is_window start end = ltb start week && ltb end week && not (eqb start end)

-- each pair is a window, and no word is left over
abbrev pub are_windows : List ℕ → Bool
are_windows [] = true
are_windows (start ∷ []) = false
are_windows (start ∷ end ∷ ws) = is_window start end && are_windows ws

-- at most 32
abbrev pub are_good : ℕ → List ℕ → Bool
are_good minute ws = ltb minute week && leb (length ws) (2 * 32) && are_windows ws

-- a poll is turned away for them. Without a minute the words mean nothing
abbrev pub are_bad : Option ℕ → List ℕ → Bool
are_bad None ws = false
are_bad (Some minute) ws = not (are_good minute ws)
