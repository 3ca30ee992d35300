-- What the walks compute: the contracts of private functions speak of it, and no public one
use Rattle.std.specs.Prelude.{ℕ, zero, suc, ◌/◌, ◌%◌, Bool, ◌&&◌, ◌||◌, not, cond, List, [], ◌∷◌, get_or, eqb, ltb, Option, Some, None, Result, Ok, Err, ⊤}
use Rattle.std.specs.Int.{bit_at}
use Rattle.std.specs.Option.{option_or}
use Rattle.settings.specs.Records.{next, version, chain}
use Rattle.settings.specs.Whole.{is_pause, is_good, is_whole}
use Rattle.settings.specs.Calls.{with_version}
use Rattle.settings.specs.declared.fault.Fault.{Fault}
use Rattle.settings.specs.declared.fault.Fault.TheVariants.{Lan, Pause, Damaged}
use Rattle.settings.specs.declared.walk.Walked.{Walked}
use Rattle.settings.specs.declared.walk.Both.{Both}

-- the last record of those that were seen, 0 before any; the one that has the version that is looked for
abbrev pub walked : ℕ → Option ℕ → Walked
walked last found = record { last = last; found = found }

abbrev pub seen : ℕ → ℕ → ℕ → Option ℕ → Option ℕ
seen version wanted i found = option_or found (cond (eqb version wanted) (Some i) None)

-- the rest of a walk: n records at most, versions below one that was seen; nothing where the chain is damaged
unfoldable pub walk_on : ℕ → List ℕ → ℕ → Walked → ℕ → ℕ → Option Walked
walk_on zero s v w below i = None
walk_on (suc n) s v w below zero = Some w
walk_on (suc n) s v w below (suc i) =
    cond (is_good s (suc i) && ltb (version s (suc i)) below)
    (walk_on n s v (walked (suc i) (seen (version s (suc i)) v (suc i) w.found)) (version s (suc i)) (next s (suc i)))
    None

unfoldable pub last_or : ℕ → List ℕ → ℕ
last_or i [] = i
last_or i (j ∷ js) = last_or j js

-- what a walk along a whole chain ends with
abbrev pub walk_end : List ℕ → ℕ → List ℕ → Walked
walk_end s v is = walked (last_or 0 is) (with_version s v is)

-- two chains that have a record in common have the last in common
abbrev pub part : Walked → Walked → Bool
part a b = eqb a.last 0 || not (eqb a.last b.last)

abbrev pub both : Walked → Walked → Both
both a b = record { first = a; second = b }

-- the walks along both chains of a whole store; nothing where it is damaged
abbrev pub walks_of : List ℕ → ℕ → Option Both
walks_of s v = cond (is_whole s) (Some (both (walk_end s v (chain s 0)) (walk_end s v (chain s 1)))) None

abbrev pub of_lan : Both → ℕ → Walked
of_lan b zero = b.first
of_lan b (suc lan) = b.second

-- ---- the tests of a call, in order
abbrev pub port : ℕ → Result ⊤ Fault
port lan = cond (ltb 1 lan) (Err Lan) (Ok tt)

abbrev pub in_range : ℕ → Result ⊤ Fault
in_range pause = cond (is_pause pause) (Ok tt) (Err Pause)

abbrev pub walked_or_damaged : List ℕ → ℕ → Result Both Fault
walked_or_damaged s v = cond (is_whole s) (Ok (both (walk_end s v (chain s 0)) (walk_end s v (chain s 1)))) (Err Damaged)

-- ---- marks
abbrev pub is_marked : List ℕ → ℕ → Bool
is_marked marks k = eqb (bit_at (get_or marks (k / 32) 0) (k % 32)) 1
