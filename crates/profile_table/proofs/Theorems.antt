-- What a table that is taken gives, that the order of its rows does not matter, and that an error names what is first at fault
use borrow.Author.Tests.{ltb-true, ltb-false, le-ltb, not-true, not-false, both_ways}
use Rattle.std.proofs.Common.{ℕ, zero, suc, ◌+◌, ◌≡◌, ◌≤◌, Bool, true, false, not, ◌&&◌, ◌||◌, ◌↔◌, cond, eqb, leb, List, [], ◌∷◌, ltb, length, position, count_by, Option, Some, None, option_map, Ok, Err, IsPermutation, inl, inr, refl, sym, ◌∙◌, ap, subst, arith, zero-add}
use Rattle.std.specs.Prelude.{⊤}
use Rattle.std.specs.Option.{option_or}
use Rattle.std.specs.List.{list_all}
use Rattle.std.proofs.lemmas.Option.{same_Some}
use Rattle.std.proofs.lemmas.List.Sorted.{list_any-IsPermutation, sum_by-IsPermutation, length_permutation}
use Rattle.profile_table.specs.Rows.{is_good, covers, rows_of}
use Rattle.profile_table.specs.Table.{bad_row, has_row, fault_of, fault_at, lowest, failing, fault, profile, err_or, checked, looked_up}
use Rattle.profile_table.specs.Taken.{rows_at, InJustOne, IsTaken, TheRow, IsFirstBad, IsFirstPlace, IsFirstFault}
use Rattle.profile_table.specs.declared.row.Row.{Row}
use Rattle.profile_table.specs.declared.fault.Fault.{Fault}
use Rattle.profile_table.specs.declared.fault.Fault.TheVariants.{BadRow}
use Rattle.profile_table.proofs.Counting.{In, any_in, any_yes, count-cons}
use Rattle.profile_table.proofs.Lowest.{lowest_none, lowest_some, lowest_empty}
use Rattle.profile_table.proofs.Ends.{and_left, and_right, some_row, fault_none, at_some}
use Rattle.profile_table.proofs.Failing.{clean, good_in}
use Rattle.profile_table.proofs.Elements.{in_at, place_of, the_one, find_none, found_sum, position_first, no_position}

-- ---- no error, in parts
or_none : (a b : Option Fault) → option_or a b ≡ None → (a ≡ None) × (b ≡ None)
or_none None b h = (refl, h)
or_none (Some x) b h = cc

no_bad : (o : Option ℕ) → option_map BadRow o ≡ None → o ≡ None
no_bad None h = refl
no_bad (Some k) h = cc

taken_parts : (rows : List Row) → fault rows ≡ None → (bad_row rows ≡ None) × (failing rows ≡ None)
unfolding fault
taken_parts rows h = let parts = or_none _ _ h in (no_bad _ parts.0, parts.1)

taken_whole : (rows : List Row) → bad_row rows ≡ None → failing rows ≡ None → fault rows ≡ None
unfolding fault
taken_whole rows h g = rw (h, g) refl

no_fault : (words : List ℕ) → checked words ≡ Ok tt → fault (rows_of words) ≡ None
no_fault words h = go (fault (rows_of words)) refl h
  where
    go : (o : Option Fault) → fault (rows_of words) ≡ o → err_or {A = ⊤} o tt ≡ Ok tt → fault (rows_of words) ≡ None
    go None e g = e
    go (Some f) e g = cc

all_pass : {X : Type 0} (p : X → Bool) (xs : List X) → list_all p xs ≡ true → (x : X) → In x xs → p x ≡ true
all_pass p [] h x i = absurd i
all_pass p (y ∷ ys) h x (inl e) = rw (← e) (and_left (p y) (list_all p ys) h)
all_pass p (y ∷ ys) h x (inr i) = all_pass p ys (and_right (p y) (list_all p ys) h) x i

-- no row of a device without rows covers a version of it
no_cover : (rows : List Row) (d v : ℕ) → has_row rows d ≡ false → count_by (covers d v) rows ≡ 0
no_cover [] d v h = refl
no_cover (r ∷ rs) d v h = count-cons (covers d v) r rs ∙ go (eqb r.device d) h (no_cover rs d v)
  where
    go : (b : Bool) → b || has_row rs d ≡ false → (has_row rs d ≡ false → count_by (covers d v) rs ≡ 0)
        → cond (b && leb r.first v && leb v r.last) 1 0 + count_by (covers d v) rs ≡ 0
    go true h on = cc
    go false h on = zero-add _ ∙ on h

module _ (rows : List Row) where
  none_failing : failing rows ≡ None → (d v : ℕ) → d ≤ 65535 → v ≤ 65535 → fault_at rows d v ≡ None
  unfolding failing
  none_failing h d v small_d small_v =
      lowest_none (fault_at rows d) 65536 (lowest_none (λ e. lowest (fault_at rows e) 65536) 65536 h d (omega arith)) v (omega arith)

  just_one : (d v : ℕ) → fault_at rows d v ≡ None → InJustOne rows d v
  unfolding fault_at
  just_one d v h row = go (has_row rows d) row h
    where
      go : (b : Bool) → b ≡ true → cond b (fault_of d v (count_by (covers d v) rows)) None ≡ None → count_by (covers d v) rows ≡ 1
      go true e g = fault_none d v _ g
      go false e g = cc

  nothing_at : (d v : ℕ) → InJustOne rows d v → fault_at rows d v ≡ None
  unfolding fault_at
  nothing_at d v one = go (has_row rows d) refl
    where
      go : (b : Bool) → has_row rows d ≡ b → cond b (fault_of d v (count_by (covers d v) rows)) None ≡ None
      go true e = rw (one e) refl
      go false e = refl

  small_device : list_all is_good rows ≡ true → (d : ℕ) → has_row rows d ≡ true → d ≤ 65535
  small_device good d h =
      let r = some_row rows d h in
      let low = (good_in rows good r.0 r.1).device in
      let same = r.2 in
      omega arith

  -- ---- a table that is taken, as the paper has it
  is_taken : fault rows ≡ None → IsTaken rows
  is_taken h =
      let parts = taken_parts rows h in
      let fine = clean rows parts.0 in
      record {
        few = fine.few;
        good = λ k r e. all_pass is_good rows fine.good r (in_at rows k e);
        one = λ d v small row. just_one d v (none_failing parts.1 d v (small_device fine.good d row) small) row;
      }

  bad_none : length rows ≤ 256 → ((r : Row) → In r rows → is_good r ≡ true) → bad_row rows ≡ None
  bad_none few good = rw (le-ltb 256 (length rows) few) (no_position (λ r. not (is_good r)) rows (λ r i. rw (good r i) refl))

  failing_none : ((d v : ℕ) → v ≤ 65535 → InJustOne rows d v) → failing rows ≡ None
  unfolding failing
  failing_none one =
      lowest_empty (λ d. lowest (fault_at rows d) 65536) 65536
      (λ d l. lowest_empty (fault_at rows d) 65536 (λ v m. nothing_at d v (one d v (omega arith))))

  from_taken : IsTaken rows → fault rows ≡ None
  from_taken taken =
      taken_whole rows
      (bad_none taken.few (λ r i. let at = place_of rows r i in taken.good at.0 r at.1))
      (failing_none taken.one)

-- a table is taken just when it is what the definition says
pub taken_just_when : (words : List ℕ) → (checked words ≡ Ok tt) ↔ IsTaken (rows_of words)
taken_just_when words = (λ h. is_taken (rows_of words) (no_fault words h), λ taken. rw (from_taken (rows_of words) taken) refl)

-- every version of each device that has a row gets one profile, that of the one row it lies in
pub one_profile : (words : List ℕ) → checked words ≡ Ok tt → (device version : ℕ) → has_row (rows_of words) device ≡ true → version ≤ 65535
    → (one : TheRow (rows_of words) device version) × (looked_up words device version ≡ Ok (Some one.row.profile))
one_profile words h device version row small =
    let none = no_fault words h in
    let one = the_one (covers device version) (rows_of words) ((is_taken (rows_of words) none).one device version small row) in
    (record { place = one.place; row = one.x; there = one.there; inside = one.passes; only = one.only }, rw (none, one.first) refl)

-- a device without rows has none
pub no_profile : (words : List ℕ) → checked words ≡ Ok tt → (device version : ℕ) → has_row (rows_of words) device ≡ false
    → looked_up words device version ≡ Ok None
no_profile words h device version row =
    rw (no_fault words h, find_none (covers device version) (rows_of words) (no_cover (rows_of words) device version row)) refl

-- the table's error is the answer of each look-up
pub error_of_all : (words : List ℕ) (f : Fault) → checked words ≡ Err f → (device version : ℕ) → looked_up words device version ≡ Err f
error_of_all words f h device version = go (fault (rows_of words)) h
  where
    go : (o : Option Fault) → err_or {A = ⊤} o tt ≡ Err f → err_or o (profile (rows_of words) device version) ≡ Err f
    go None e = cc
    go (Some g) e = let same : g ≡ f = cc in ap Err same

-- ---- the rows in another order
module _ (xs ys : List Row) (same : IsPermutation xs ys) where
  same_row : (d : ℕ) → has_row xs d ≡ has_row ys d
  same_row d = list_any-IsPermutation (λ r. eqb r.device d) xs ys same

  same_count : (d v : ℕ) → rows_at ys d v ≡ rows_at xs d v
  same_count d v = sum_by-IsPermutation (λ r. cond (covers d v r) 1 0) xs ys same

  still_good : IsTaken xs → (r : Row) → In r ys → is_good r ≡ true
  still_good taken r i = go (is_good r) refl
    where
      go : (b : Bool) → is_good r ≡ b → is_good r ≡ true
      go true e = e
      go false e =
          let bad : not (is_good r) ≡ true = rw e refl in
          let there = list_any-IsPermutation (λ s. not (is_good s)) xs ys same ∙ any_yes (λ s. not (is_good s)) r ys i bad in
          let found = any_in (λ s. not (is_good s)) xs there in
          let at = place_of xs found.0 found.1 in
          absurd (both_ways _ (not-true _ found.2) (taken.good at.0 found.0 at.1))

  still_taken : IsTaken xs → IsTaken ys
  still_taken taken = record {
    few = let few = taken.few in let long = length_permutation xs ys same in omega arith;
    good = λ k r e. still_good taken r (in_at ys k e);
    one = λ d v small row. same_count d v ∙ taken.one d v small (same_row d ∙ row);
  }

  same_profile : IsTaken xs → (d v : ℕ) → v ≤ 65535 → profile ys d v ≡ profile xs d v
  same_profile taken d v small = go (has_row xs d) refl
    where
      go : (b : Bool) → has_row xs d ≡ b → profile ys d v ≡ profile xs d v
      go true e =
          let one = taken.one d v small e in
          found_sum (covers d v) (λ r. r.profile) ys (same_count d v ∙ one)
          ∙ ap Some (sum_by-IsPermutation (λ r. cond (covers d v r) r.profile 0) xs ys same)
          ∙ sym (found_sum (covers d v) (λ r. r.profile) xs one)
      go false e =
          let none = no_cover xs d v e in
          rw (find_none (covers d v) ys (same_count d v ∙ none), find_none (covers d v) xs none) refl

-- the order of the rows does not matter to a look-up in a table that is taken
pub any_order : (words others : List ℕ) → IsPermutation (rows_of words) (rows_of others) → checked words ≡ Ok tt
    → (device version : ℕ) → version ≤ 65535 → looked_up others device version ≡ looked_up words device version
any_order words others same h device version small =
    let none = no_fault words h in
    let taken = is_taken (rows_of words) none in
    let still = from_taken (rows_of others) (still_taken (rows_of words) (rows_of others) same taken) in
    rw (still, none) (ap Ok (same_profile (rows_of words) (rows_of others) same taken device version small))

-- ---- the first error
module _ (rows : List Row) where
  first_bad : (k : ℕ) → bad_row rows ≡ Some k → IsFirstBad rows k
  first_bad k h = go (ltb 256 (length rows)) refl h
    where
      go : (b : Bool) → ltb 256 (length rows) ≡ b → cond b (Some 256) (position (λ r. not (is_good r)) rows) ≡ Some k → IsFirstBad rows k
      go true e g =
          let many = ltb-true _ _ e in
          record {
            many = λ m. sym (same_Some _ _ g);
            bad = λ few. absurd (omega arith);
            lower = λ few j r l at. absurd (omega arith);
          }
      go false e g =
          let few = ltb-false _ _ e in
          let first = position_first (λ r. not (is_good r)) rows k g in
          record {
            many = λ m. absurd (omega arith);
            bad = λ m. (first.x, first.there, not-true _ first.passes);
            lower = λ m j r l at. not-false _ (first.lower j r l at);
          }

  first_place : (f : Fault) → bad_row rows ≡ None → failing rows ≡ Some f → IsFirstFault rows f
  unfolding failing
  first_place f h g =
      let fine = clean rows h in
      let ld = lowest_some (λ d. lowest (fault_at rows d) 65536) 65536 g in
      let lv = lowest_some (fault_at rows ld.k) 65536 ld.gives in
      let at = at_some rows ld.k lv.k lv.gives in
      let low_d = ld.below in
      let low_v = lv.below in
      let place : IsFirstPlace rows ld.k lv.k = record {
        few = fine.few;
        good = λ k r e. all_pass is_good rows fine.good r (in_at rows k e);
        row = at.0;
        small_device = omega arith;
        small_version = omega arith;
        lower_version = λ w l. just_one rows ld.k w (lv.none w l);
        lower_device = λ e w l small. just_one rows e w (lowest_none (fault_at rows e) 65536 (ld.none e l) w (omega arith));
      } in
      go ld.k lv.k (rows_at rows ld.k lv.k) refl place at.1
    where
      go : (d v n : ℕ) → rows_at rows d v ≡ n → IsFirstPlace rows d v → fault_of d v n ≡ Some f → IsFirstFault rows f
      go d v zero e place m = subst (IsFirstFault rows) (same_Some _ _ m) (place, e)
      go d v (suc zero) e place m = cc
      go d v (suc (suc n)) e place m = subst (IsFirstFault rows) (same_Some _ _ m) (place, omega arith)

  first_fault : (f : Fault) → fault rows ≡ Some f → IsFirstFault rows f
  unfolding fault
  first_fault f h = go (bad_row rows) refl h
    where
      go : (o : Option ℕ) → bad_row rows ≡ o → option_or (option_map BadRow o) (failing rows) ≡ Some f → IsFirstFault rows f
      go None e g = first_place f e g
      go (Some k) e g = subst (IsFirstFault rows) (same_Some _ _ g) (first_bad k e)

-- an error names a row, or a device and version, that is at fault, and nothing lower is
pub error_is_first : (words : List ℕ) (f : Fault) → checked words ≡ Err f → IsFirstFault (rows_of words) f
error_is_first words f h = go (fault (rows_of words)) refl h
  where
    go : (o : Option Fault) → fault (rows_of words) ≡ o → err_or {A = ⊤} o tt ≡ Err f → IsFirstFault (rows_of words) f
    go None e g = cc
    go (Some x) e g = let same : x ≡ f = cc in first_fault (rows_of words) f (e ∙ ap Some same)
