-- What the calls answer, and the words that they leave
use Rattle.std.specs.Prelude.{ℕ, zero, suc, ◌+◌, ◌-◌, ◌*◌, Bool, ◌&&◌, cond, not, List, [], ◌∷◌, eqb, ltb, min, find, Option, Some, None, Result, Ok, Err, option_map}
use Rattle.std.proofs.lemmas.List.Edits.{sets}
use Rattle.settings.specs.Records.{records, head, version, setting, chain}
use Rattle.settings.specs.Whole.{has, is_pause, is_whole}
use Rattle.settings.specs.declared.fault.Fault.{Fault}
use Rattle.settings.specs.declared.fault.Fault.TheVariants.{Lan, Pause, Damaged, Full}
use Rattle.settings.specs.declared.setting.Setting.{Setting}

-- ---- reading

-- what is read, unless the lan is above 1 or the store is damaged
abbrev pub read : List ℕ → ℕ → Option Setting → Result (Option Setting) Fault
read s lan found = cond (ltb 1 lan) (Err Lan) (cond (is_whole s) (Ok found) (Err Damaged))

-- a head of zero is an empty chain's
abbrev pub at_head : List ℕ → ℕ → Option Setting
at_head s zero = None
at_head s (suc i) = Some (setting s (suc i))

abbrev pub newest : List ℕ → ℕ → Result (Option Setting) Fault
newest s lan = read s lan (at_head s (head s lan))

-- the record of a chain that has a version
abbrev pub with_version : List ℕ → ℕ → List ℕ → Option ℕ
with_version s v is = find (λ i. eqb (version s i) v) is

abbrev pub named : List ℕ → ℕ → ℕ → Result (Option Setting) Fault
named s lan v = read s lan (option_map (setting s) (with_version s v (chain s lan)))

-- ---- storing

-- a record outside both chains
abbrev pub is_free : List ℕ → ℕ → Bool
is_free s i = not (has i (chain s 0)) && not (has i (chain s 1))

-- the first of n numbers from k on that passes
unfoldable pub first : (ℕ → Bool) → ℕ → ℕ → Option ℕ
first p k zero = None
first p k (suc n) = cond (p k) (Some k) (first p (k + 1) n)

-- the first record above 0 outside both chains, if its index fits in a word
unfoldable pub free : List ℕ → Option ℕ
free s = first (is_free s) 1 (min (records s) 4294967296 - 1)

-- one above the head's version, 1 in an empty chain; none above 4294967295
abbrev pub above : List ℕ → ℕ → ℕ
above s zero = 1
above s (suc i) = version s (suc i) + 1

abbrev pub next_version : List ℕ → ℕ → Option ℕ
next_version s lan = cond (ltb (above s (head s lan)) 4294967296) (Some (above s (head s lan))) None

abbrev pub new_record : ℕ → ℕ → ℕ → Bool → List ℕ
new_record next version pause veto = next ∷ version ∷ pause ∷ cond veto 1 0 ∷ 0 ∷ 0 ∷ 0 ∷ 0 ∷ []

-- a record before the head of a lan's chain, and the head
abbrev pub put : List ℕ → ℕ → ℕ → ℕ → ℕ → Bool → List ℕ
put s lan i version pause veto = sets (sets s (8 * i) (new_record (head s lan) version pause veto)) lan (i ∷ [])

abbrev pub put_at : List ℕ → ℕ → ℕ → Bool → Option ℕ → Option ℕ → Result ℕ Fault × List ℕ
put_at s lan pause veto (Some version) (Some i) = (Ok version, put s lan i version pause veto)
put_at s lan pause veto (Some version) None = (Err Full, s)
put_at s lan pause veto None place = (Err Full, s)

-- the new version, and the words that are left; a refused call leaves them as they were
unfoldable pub store : List ℕ → ℕ → ℕ → Bool → Result ℕ Fault × List ℕ
store s lan pause veto =
    cond (ltb 1 lan) (Err Lan, s)
    (cond (not (is_pause pause)) (Err Pause, s)
    (cond (not (is_whole s)) (Err Damaged, s)
    (put_at s lan pause veto (next_version s lan) (free s))))
