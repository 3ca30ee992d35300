-- A whole store: one that is not damaged
use Rattle.std.specs.Prelude.{ℕ, ◌+◌, ◌*◌, ◌%◌, Bool, true, ◌&&◌, not, List, [], ◌∷◌, map, take, drop, eqb, ltb, leb, length}
use Rattle.std.specs.List.{list_all, list_any}
use Rattle.settings.specs.Records.{records, version, pause, veto, chain}

abbrev pub has : ℕ → List ℕ → Bool
has i is = list_any (λ j. eqb j i) is

-- so many words from a place on are zero
abbrev pub zeros : List ℕ → ℕ → ℕ → Bool
zeros s at n = list_all (λ w. eqb w 0) (take n (drop at s))

abbrev pub is_pause : ℕ → Bool
is_pause p = leb 1 p && leb p 100

-- a record of a chain lies in the store, and each of its fields is in range
unfoldable pub is_good : List ℕ → ℕ → Bool
is_good s i = ltb i (records s) && leb 1 (version s i) && is_pause (pause s i) && leb (veto s i) 1 && zeros s (8 * i + 4) 4

-- versions that fall from one below v on
unfoldable pub fall_below : ℕ → List ℕ → Bool
fall_below v [] = true
fall_below v (w ∷ ws) = ltb w v && fall_below w ws

-- a word is below 2 ^ 32, and so is each version
abbrev pub falls : List ℕ → Bool
falls vs = fall_below 4294967296 vs

abbrev pub chain_whole : List ℕ → List ℕ → Bool
chain_whole s is = list_all (is_good s) is && falls (map (version s) is)

-- no record is in both
abbrev pub apart : List ℕ → List ℕ → Bool
apart is js = not (list_any (λ i. has i js) is)

-- a multiple of eight words, and not none; record 0 has its zeros
abbrev pub has_form : List ℕ → Bool
has_form s = eqb (length s % 8) 0 && leb 8 (length s) && zeros s 2 6

unfoldable pub is_whole : List ℕ → Bool
is_whole s = has_form s && chain_whole s (chain s 0) && chain_whole s (chain s 1) && apart (chain s 0) (chain s 1)
