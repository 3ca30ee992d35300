-- The search by row ends finds the lowest device, and of it the lowest version, that fails
use borrow.Author.Tests.{ltb-true, ltb-false, lt-ltb}
use Rattle.std.proofs.Common.{ℕ, suc, ◌+◌, ◌*◌, ◌≡◌, ◌<◌, ◌≤◌, ◌⊎◌, Bool, true, false, not, cond, List, [], ◌∷◌, ltb, length, position, count_by, Option, Some, None, inl, inr, refl, sym, ◌∙◌, ap, arith, subst, ◌&&◌, eq-or-lt_of_le}
use Rattle.std.specs.Option.{option_or}
use Rattle.std.specs.List.{list_all, prefix_len}
use Rattle.std.proofs.lemmas.Option.{same_Some}
use Rattle.profile_table.specs.Rows.{is_good, covers}
use Rattle.profile_table.specs.Fault.{place}
use Rattle.profile_table.specs.Table.{bad_row, fault_of, fault_at, lowest, failing}
use Rattle.profile_table.specs.Search.{fault_behind, fault_by, lower, lowest_by}
use Rattle.profile_table.specs.declared.row.Row.{Row}
use Rattle.profile_table.specs.declared.fault.Fault.{Fault}
use Rattle.profile_table.proofs.Counting.{In}
use Rattle.profile_table.proofs.Lowest.{LowestAt, lowest_none, lowest_some}
use Rattle.profile_table.proofs.Ends.{Good, good_parts, and_left, and_right, fault_place, at_row, at_some, End, lowest_end}

-- a device and a version of 16 bits at which f is wrong
pub record Fails (rows : List Row) (f : Fault) : Type 0 where
  pub device : ℕ
  pub version : ℕ
  pub small_device : device ≤ 65535
  pub small_version : version ≤ 65535
  pub at : fault_at rows device version ≡ Some f
  pub placed : place f ≡ device * 65536 + version

-- what was found is wrong somewhere
abbrev pub Sound : List Row → Option Fault → Type 0
Sound rows o = (f : Fault) → o ≡ Some f → Fails rows f

-- something that is no higher was found
abbrev pub Reaches : Option Fault → Fault → Type 0
Reaches o f = (g : Fault) × (o ≡ Some g) × (place g ≤ place f)

lower_sound : (rows : List Row) (a b : Option Fault) → Sound rows a → Sound rows b → Sound rows (lower a b)
lower_sound rows None b p q = q
lower_sound rows (Some x) None p q = p
lower_sound rows (Some x) (Some y) p q = go (ltb (place y) (place x))
  where
    go : (t : Bool) → Sound rows (cond t (Some y) (Some x))
    go true = q
    go false = p

lower_left : (a b : Option Fault) (f : Fault) → Reaches a f → Reaches (lower a b) f
lower_left None b f r = absurd (let e : None ≡ Some r.0 = r.1 in let z : ⊥ = cc in z)
lower_left (Some x) None f r = r
lower_left (Some x) (Some y) f r =
    let low : place x ≤ place f = subst (λ (g : Fault). place g ≤ place f) (sym (same_Some _ _ r.1)) r.2 in
    go (ltb (place y) (place x)) refl low
  where
    go : (t : Bool) → ltb (place y) (place x) ≡ t → place x ≤ place f → Reaches (cond t (Some y) (Some x)) f
    go true e low = let under = ltb-true _ _ e in (y, refl, omega arith)
    go false e low = (x, refl, low)

lower_right : (a b : Option Fault) (f : Fault) → Reaches b f → Reaches (lower a b) f
lower_right None b f r = r
lower_right (Some x) None f r = absurd (let e : None ≡ Some r.0 = r.1 in let z : ⊥ = cc in z)
lower_right (Some x) (Some y) f r =
    let low : place y ≤ place f = subst (λ (g : Fault). place g ≤ place f) (sym (same_Some _ _ r.1)) r.2 in
    go (ltb (place y) (place x)) refl low
  where
    go : (t : Bool) → ltb (place y) (place x) ≡ t → place y ≤ place f → Reaches (cond t (Some y) (Some x)) f
    go true e low = (y, refl, low)
    go false e low = let over = ltb-false _ _ e in (x, refl, omega arith)

or_sound : (rows : List Row) (a b : Option Fault) → Sound rows a → Sound rows b → Sound rows (option_or a b)
or_sound rows None b p q = q
or_sound rows (Some x) b p q = p

-- an earlier one counts before a later one, where it is no higher
or_left : (a b : Option Fault) (f : Fault) → Reaches a f → Reaches (option_or a b) f
or_left None b f r = absurd (let e : None ≡ Some r.0 = r.1 in let z : ⊥ = cc in z)
or_left (Some x) b f r = r

or_right : (a b : Option Fault) (f : Fault) → ((g : Fault) → a ≡ Some g → place g ≤ place f) → Reaches b f → Reaches (option_or a b) f
or_right None b f under r = r
or_right (Some x) b f under r = (x, refl, under x refl)

or_from : (a b : Option Fault) (g : Fault) → option_or a b ≡ Some g → (a ≡ Some g) ⊎ (b ≡ Some g)
or_from None b g h = inr h
or_from (Some x) b g h = inl h

module _ (rows : List Row) (r : Row) (i : In r rows) (good : Good r) where
  of_sound : (v : ℕ) → v ≤ 65535 → Sound rows (fault_of r.device v (count_by (covers r.device v) rows))
  of_sound v small f e = record {
    device = r.device;
    version = v;
    small_device = good.device;
    small_version = small;
    at = at_row rows r i v ∙ e;
    placed = fault_place r.device v _ e;
  }

  behind_sound : Sound rows (fault_behind r (count_by (covers r.device (r.last + 1)) rows))
  behind_sound = go (ltb r.last 65535) refl
    where
      go : (t : Bool) → ltb r.last 65535 ≡ t → Sound rows (cond t (fault_of r.device (r.last + 1) (count_by (covers r.device (r.last + 1)) rows)) None)
      go true e = let under = ltb-true _ _ e in of_sound (r.last + 1) (omega arith)
      go false e = λ f h. absurd (let z : ⊥ = cc in z)

  by_sound : Sound rows (fault_by rows r)
  unfolding fault_by
  by_sound =
      let top : r.first ≤ 65535 = omega (arith, good.first, good.last) in
      or_sound rows _ _ (or_sound rows _ _ (of_sound 0 (omega arith)) (of_sound r.first top)) behind_sound

  module _ (f : Fault) where
    here : (v w : ℕ) → v ≡ w → fault_at rows r.device v ≡ Some f → Reaches (fault_of r.device w (count_by (covers r.device w) rows)) f
    here v w e h =
        let at : fault_at rows r.device w ≡ Some f = rw (← e) h in
        (f, sym (at_row rows r i w) ∙ at, omega arith)

    here_behind : (v : ℕ) → v ≡ r.last + 1 → r.last < 65535 → fault_at rows r.device v ≡ Some f
        → Reaches (fault_behind r (count_by (covers r.device (r.last + 1)) rows)) f
    here_behind v e under h = rw (lt-ltb r.last 65535 under) (here v (r.last + 1) e h)

    -- what is wrong at a lower version is at a lower place
    no_higher : (v w : ℕ) → v ≤ w → place f ≡ r.device * 65536 + w
        → (g : Fault) → fault_of r.device v (count_by (covers r.device v) rows) ≡ Some g → place g ≤ place f
    no_higher v w l at g e = let low = fault_place r.device v _ e in omega arith

    placed : (v : ℕ) → fault_at rows r.device v ≡ Some f → place f ≡ r.device * 65536 + v
    placed v h = fault_place r.device v _ (at_some rows r.device v h).1

    none_higher : (v : ℕ) → r.first ≤ v → place f ≡ r.device * 65536 + v
        → (g : Fault) → option_or (fault_of r.device 0 (count_by (covers r.device 0) rows)) (fault_of r.device r.first (count_by (covers r.device r.first) rows)) ≡ Some g
        → place g ≤ place f
    none_higher v low at g m = go (or_from _ _ g m)
      where
        go : (fault_of r.device 0 (count_by (covers r.device 0) rows) ≡ Some g) ⊎ (fault_of r.device r.first (count_by (covers r.device r.first) rows) ≡ Some g)
            → place g ≤ place f
        go (inl a) = no_higher 0 v (omega arith) at g a
        go (inr b) = no_higher r.first v low at g b

    -- what is wrong at an end is found by the row, or something lower
    by_end : (v : ℕ) → End r v → fault_at rows r.device v ≡ Some f → Reaches (fault_by rows r) f
    unfolding fault_by
    by_end v (inl e) h = or_left _ _ f (or_left _ _ f (here v 0 e h))
    by_end v (inr (inl e)) h =
        or_left _ _ f (or_right _ _ f (no_higher 0 v (omega arith) (placed v h)) (here v r.first e h))
    by_end v (inr (inr (e, under))) h =
        let order = good.first in
        or_right _ _ f (none_higher v (omega arith) (placed v h)) (here_behind v e under h)

module _ (rows : List Row) where
  search_sound : (rs : List Row) (found : Option Fault) → Sound rows found → ((r : Row) → In r rs → In r rows × Good r)
      → Sound rows (lowest_by rows found rs)
  search_sound [] found s all = s
  search_sound (r ∷ rs) found s all =
      let first = all r (inl refl) in
      search_sound rs (lower found (fault_by rows r)) (lower_sound rows found _ s (by_sound rows r first.0 first.1)) (λ q i. all q (inr i))

  search_keeps : (rs : List Row) (found : Option Fault) (f : Fault) → Reaches found f → Reaches (lowest_by rows found rs) f
  search_keeps [] found f h = h
  search_keeps (r ∷ rs) found f h = search_keeps rs (lower found (fault_by rows r)) f (lower_left found _ f h)

  search_reaches : (rs : List Row) (found : Option Fault) (r : Row) → In r rs → In r rows → Good r → (v : ℕ) (f : Fault) → End r v
      → fault_at rows r.device v ≡ Some f → Reaches (lowest_by rows found rs) f
  search_reaches [] found r i j good v f end h = absurd i
  search_reaches (s ∷ rs) found r (inl e) j good v f end h =
      search_keeps rs (lower found (fault_by rows s)) f (lower_right found _ f (rw e (by_end rows r j good f v end h)))
  search_reaches (s ∷ rs) found r (inr i) j good v f end h = search_reaches rs (lower found (fault_by rows s)) r i j good v f end h

  module _ (good : (r : Row) → In r rows → Good r) where
    sound : Sound rows (lowest_by rows None rows)
    sound = search_sound rows None (λ f h. absurd (let z : ⊥ = cc in z)) (λ r i. (i, good r i))

    none_found : lowest (λ d. lowest (fault_at rows d) 65536) 65536 ≡ None → (o : Option Fault) → Sound rows o → o ≡ None
    none_found e None s = refl
    none_found e (Some g) s =
        let f = s g refl in
        let device : lowest (fault_at rows f.device) 65536 ≡ None = lowest_none (λ d. lowest (fault_at rows d) 65536) 65536 e f.device (omega (arith, f.small_device)) in
        let none : fault_at rows f.device f.version ≡ None = lowest_none (fault_at rows f.device) 65536 device f.version (omega (arith, f.small_version)) in
        let at = f.at in
        let z : ⊥ = cc in absurd z

    -- what is no higher than the lowest that fails, and is wrong itself, is that
    is_lowest : (f g : Fault) (ld : LowestAt (λ d. lowest (fault_at rows d) 65536) 65536 f) (lv : LowestAt (fault_at rows ld.k) 65536 f)
        → Fails rows g → place g ≤ place f → g ≡ f
    is_lowest f g ld lv fails low =
        let at = fails.at in
        let small = fails.small_version in
        let placed_g = fails.placed in
        let placed_f : place f ≡ ld.k * 65536 + lv.k = fault_place ld.k lv.k _ (at_some rows ld.k lv.k lv.gives).1 in
        let below = lv.below in
        let device : fails.device ≡ ld.k = no_other ld.k fails.device
        (λ less. let none = lowest_none (fault_at rows fails.device) 65536 (ld.none fails.device less) fails.version (omega (arith, small)) in let z : ⊥ = cc in z)
        (omega arith) in
        let at_here : fault_at rows ld.k fails.version ≡ Some g = rw (← device) at in
        let version : fails.version ≡ lv.k = no_other lv.k fails.version
        (λ less. let none = lv.none fails.version less in let z : ⊥ = cc in z)
        (omega arith) in
        let gives = lv.gives in
        let same : Some g ≡ Some f = sym at_here ∙ rw version gives in
        same_Some _ _ same
      where
        no_other : (m n : ℕ) → (n < m → ⊥) → n ≤ m → n ≡ m
        no_other m n never le = elim (eq-or-lt_of_le le) [ inl e ↦ e | inr less ↦ absurd (never less) ]

    at_lowest : (f : Fault) (ld : LowestAt (λ d. lowest (fault_at rows d) 65536) 65536 f) (lv : LowestAt (fault_at rows ld.k) 65536 f)
        → (o : Option Fault) → Sound rows o → Reaches o f → o ≡ Some f
    at_lowest f ld lv o s (g, e, low) = e ∙ ap Some (is_lowest f g ld lv (s g e) low)

    found_is : lowest_by rows None rows ≡ failing rows
    unfolding failing
    found_is = go (lowest (λ d. lowest (fault_at rows d) 65536) 65536) refl
      where
        go : (o : Option Fault) → lowest (λ d. lowest (fault_at rows d) 65536) 65536 ≡ o → lowest_by rows None rows ≡ o
        go None e = none_found e _ sound
        go (Some f) e =
            let ld = lowest_some (λ d. lowest (fault_at rows d) 65536) 65536 e in
            let lv = lowest_some (fault_at rows ld.k) 65536 ld.gives in
            let end = lowest_end rows ld.k lv.k lv.gives lv.none (omega (arith, lv.below)) in
            let at : fault_at rows end.row.device lv.k ≡ Some f = rw end.device lv.gives in
            let reach = search_reaches rows None end.row end.in_rows end.in_rows (good end.row end.in_rows) lv.k f end.end at in
            at_lowest f ld lv (lowest_by rows None rows) sound reach

-- ---- the rows of a table of which none is bad
all_of : (rows : List Row) → length rows ≤ prefix_len (λ r. not (not (is_good r))) rows → list_all is_good rows ≡ true
all_of [] h = refl
all_of (r ∷ rs) h = go (is_good r) h (all_of rs)
  where
    go : (b : Bool) → suc (length rs) ≤ cond (not (not b)) (1 + prefix_len (λ s. not (not (is_good s))) rs) 0
        → (length rs ≤ prefix_len (λ s. not (not (is_good s))) rs → list_all is_good rs ≡ true) → b && list_all is_good rs ≡ true
    go true h on = on (omega arith)
    go false h on = absurd (omega arith)

pub all_good : (rows : List Row) → position (λ r. not (is_good r)) rows ≡ None → list_all is_good rows ≡ true
all_good rows h = go (ltb (prefix_len (λ r. not (not (is_good r))) rows) (length rows)) refl h
  where
    go : (b : Bool) → ltb (prefix_len (λ r. not (not (is_good r))) rows) (length rows) ≡ b
        → cond b (Some (prefix_len (λ r. not (not (is_good r))) rows)) None ≡ None → list_all is_good rows ≡ true
    go true e h = cc
    go false e h = all_of rows (ltb-false _ _ e)

-- a table without a bad row has at most 256, all good
pub record Clean (rows : List Row) : Type 0 where
  pub few : length rows ≤ 256
  pub good : list_all is_good rows ≡ true

pub clean : (rows : List Row) → bad_row rows ≡ None → Clean rows
clean rows h = go (ltb 256 (length rows)) refl h
  where
    go : (b : Bool) → ltb 256 (length rows) ≡ b → cond b (Some 256) (position (λ r. not (is_good r)) rows) ≡ None → Clean rows
    go true e h = cc
    go false e h = record { few = ltb-false _ _ e; good = all_good rows h }

pub all_clean : (rows : List Row) → bad_row rows ≡ None → list_all is_good rows ≡ true
all_clean rows h = (clean rows h).good

pub good_in : (rows : List Row) → list_all is_good rows ≡ true → (r : Row) → In r rows → Good r
good_in [] h r i = absurd i
good_in (s ∷ rs) h r (inl e) = subst Good e (good_parts s (and_left (is_good s) (list_all is_good rs) h))
good_in (s ∷ rs) h r (inr i) = good_in rs (and_right (is_good s) (list_all is_good rs) h) r i

-- what was found once no row is left
pub found_last : (rows rest : List Row) (found : Option Fault) → bad_row rows ≡ None → rest ≡ []
    → lowest_by rows found rest ≡ lowest_by rows None rows → failing rows ≡ found
found_last rows rest found h e same =
    let last : found ≡ lowest_by rows None rows = subst (λ (l : List Row). lowest_by rows found l ≡ lowest_by rows None rows) e same in
    sym (last ∙ found_is rows (good_in rows (clean rows h).good))
