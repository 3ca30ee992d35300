-- Small stores, computed
use Rattle.std.proofs.Common.{ℕ, ◌≡◌, true, false, List, [], ◌∷◌, ◌++◌, Some, None, Ok, Err, refl}
use Rattle.settings.specs.Records.{chain_from}
use Rattle.settings.specs.Whole.{is_good, fall_below, is_whole}
use Rattle.settings.specs.Calls.{newest, named, first, free, store}
use Rattle.settings.specs.Past.{set_to, after}
use Rattle.settings.specs.declared.fault.Fault.TheVariants.{Lan, Pause, Damaged, Full}

abbrev blank : List ℕ
blank = 0 ∷ 0 ∷ 0 ∷ 0 ∷ 0 ∷ 0 ∷ 0 ∷ 0 ∷ []

-- three records, of which the first that is free holds something
abbrev three : List ℕ
three = blank ++ (7 ∷ 7 ∷ 7 ∷ 7 ∷ 7 ∷ 7 ∷ 7 ∷ 7 ∷ []) ++ blank

-- lan 1 at record 2, version 9; lan 0 empty
abbrev gap : List ℕ
gap = (0 ∷ 2 ∷ 0 ∷ 0 ∷ 0 ∷ 0 ∷ 0 ∷ 0 ∷ []) ++ (7 ∷ 7 ∷ 7 ∷ 7 ∷ 7 ∷ 7 ∷ 7 ∷ 7 ∷ []) ++ (0 ∷ 9 ∷ 40 ∷ 1 ∷ 0 ∷ 0 ∷ 0 ∷ 0 ∷ [])

whole_three : is_whole three ≡ true
unfolding is_whole chain_from fall_below is_good
whole_three = refl

first_store : store three 0 10 true ≡ (Ok 1, (1 ∷ 0 ∷ 0 ∷ 0 ∷ 0 ∷ 0 ∷ 0 ∷ 0 ∷ []) ++ (0 ∷ 1 ∷ 10 ∷ 1 ∷ 0 ∷ 0 ∷ 0 ∷ 0 ∷ []) ++ blank)
unfolding store is_whole chain_from fall_below is_good free first
first_store = refl

-- a version above the head's, in the free record before it
next_store : store gap 1 100 false ≡ (Ok 10, (0 ∷ 1 ∷ 0 ∷ 0 ∷ 0 ∷ 0 ∷ 0 ∷ 0 ∷ []) ++ (2 ∷ 10 ∷ 100 ∷ 0 ∷ 0 ∷ 0 ∷ 0 ∷ 0 ∷ []) ++ (0 ∷ 9 ∷ 40 ∷ 1 ∷ 0 ∷ 0 ∷ 0 ∷ 0 ∷ []))
unfolding store is_whole chain_from fall_below is_good free first
next_store = refl

reads : (newest gap 1 ≡ Ok (Some (set_to 9 40 true))) × (newest gap 0 ≡ Ok None) × (named gap 1 9 ≡ Ok (Some (set_to 9 40 true))) × (named gap 1 8 ≡ Ok None)
unfolding is_whole chain_from fall_below is_good
reads = (refl, refl, refl, refl)

-- both records used: full; and each refusal comes before those behind it
abbrev after_two : List ℕ
after_two = after gap (record { lan = 0; pause = 1; veto = true } ∷ [])

refusals : ((store after_two 0 10 true).0 ≡ Err Full) × ((store after_two 0 101 true).0 ≡ Err Pause) × ((store after_two 2 101 true).0 ≡ Err Lan)
unfolding after store is_whole chain_from fall_below is_good free first
refusals = (refl, refl, refl)

-- a record in both chains; a link to itself; a veto of 2; too few words; words that are no records
abbrev one_record : ℕ → ℕ → ℕ → ℕ → List ℕ
one_record head0 head1 next veto = (head0 ∷ head1 ∷ 0 ∷ 0 ∷ 0 ∷ 0 ∷ 0 ∷ 0 ∷ []) ++ (next ∷ 1 ∷ 10 ∷ veto ∷ 0 ∷ 0 ∷ 0 ∷ 0 ∷ [])

damaged : (newest (one_record 1 1 0 1) 0 ≡ Err Damaged) × (newest (one_record 1 0 1 1) 0 ≡ Err Damaged) × (newest (one_record 1 0 0 2) 1 ≡ Err Damaged) × (newest (one_record 2 0 0 1) 0 ≡ Err Damaged)
unfolding is_whole chain_from fall_below is_good
damaged = (refl, refl, refl, refl)

too_short : (newest [] 0 ≡ Err Damaged) × (newest (blank ++ 0 ∷ []) 0 ≡ Err Damaged) × (newest [] 2 ≡ Err Lan)
unfolding is_whole chain_from fall_below is_good
too_short = (refl, refl, refl)

-- what stands in a free record does not matter
whatever : is_whole (one_record 0 0 9 5) ≡ true
unfolding is_whole chain_from fall_below is_good
whatever = refl
