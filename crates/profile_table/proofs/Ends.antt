-- The lowest version that fails is at an end of a row: 0, a row's first, or the one behind its last
use borrow.Author.Tests.{leb-true, le-leb, eqb-true, eq-eqb, both_ways}
use Rattle.std.proofs.Common.{ℕ, zero, suc, ◌+◌, ◌*◌, ◌≡◌, ◌<◌, ◌≤◌, ◌⊎◌, Bool, true, false, ◌&&◌, cond, List, leb, eqb, count_by, Some, None, inl, inr, refl, sym, ◌∙◌, ap, arith, eq-or-lt_of_le}
use Rattle.std.proofs.lemmas.Option.{same_Some}
use Rattle.profile_table.specs.Rows.{is_good, covers}
use Rattle.profile_table.specs.Fault.{place}
use Rattle.profile_table.specs.Table.{has_row, fault_of, fault_at}
use Rattle.profile_table.specs.declared.row.Row.{Row}
use Rattle.profile_table.specs.declared.fault.Fault.{Fault}
use Rattle.profile_table.proofs.Counting.{In, any_in, any_yes, more_of}

pub and_left : (a b : Bool) → a && b ≡ true → a ≡ true
and_left true b h = refl
and_left false b h = h

pub and_right : (a b : Bool) → a && b ≡ true → b ≡ true
and_right true b h = h
and_right false b h = cc

-- what a good row's words are
pub record Good (r : Row) : Type 0 where
  pub device : r.device ≤ 65535
  pub first : r.first ≤ r.last
  pub last : r.last ≤ 65535
  pub low : 1 ≤ r.profile
  pub high : r.profile ≤ 255

pub good_parts : (r : Row) → is_good r ≡ true → Good r
good_parts r h =
    let a = leb r.device 65535 in
    let b = leb r.first r.last in
    let c = leb r.last 65535 in
    let d = leb 1 r.profile in
    let four = and_left (a && b && c && d) (leb r.profile 255) h in
    let three = and_left (a && b && c) d four in
    let two = and_left (a && b) c three in
    record {
      device = leb-true _ _ (and_left a b two);
      first = leb-true _ _ (and_right a b two);
      last = leb-true _ _ (and_right (a && b) c three);
      low = leb-true _ _ (and_right (a && b && c) d four);
      high = leb-true _ _ (and_right (a && b && c && d) (leb r.profile 255) h);
    }

pub record Covers (d v : ℕ) (r : Row) : Type 0 where
  pub device : r.device ≡ d
  pub first : r.first ≤ v
  pub last : v ≤ r.last

pub covers_parts : (d v : ℕ) (r : Row) → covers d v r ≡ true → Covers d v r
covers_parts d v r h =
    let a = eqb r.device d in
    let b = leb r.first v in
    let two = and_left (a && b) (leb v r.last) h in
    record {
      device = eqb-true _ _ (and_left a b two);
      first = leb-true _ _ (and_right a b two);
      last = leb-true _ _ (and_right (a && b) (leb v r.last) h);
    }

pub covers_all : (d v : ℕ) (r : Row) → r.device ≡ d → r.first ≤ v → v ≤ r.last → covers d v r ≡ true
covers_all d v r e f g = rw (eq-eqb _ _ e, le-leb _ _ f, le-leb _ _ g) refl

module _ (d v : ℕ) where
  pub fault_none : (n : ℕ) → fault_of d v n ≡ None → n ≡ 1
  fault_none zero h = cc
  fault_none (suc zero) h = refl
  fault_none (suc (suc n)) h = cc

  pub fault_some : (n : ℕ) {f : Fault} → fault_of d v n ≡ Some f → (n < 1) ⊎ (1 < n)
  fault_some zero {f} h = inl (omega arith)
  fault_some (suc zero) {f} h = cc
  fault_some (suc (suc n)) {f} h = inr (omega arith)

  pub fault_place : (n : ℕ) {f : Fault} → fault_of d v n ≡ Some f → place f ≡ d * 65536 + v
  fault_place zero {f} h = ap place (sym (same_Some _ _ h))
  fault_place (suc zero) {f} h = cc
  fault_place (suc (suc n)) {f} h = ap place (sym (same_Some _ _ h))

module _ (rows : List Row) where
  pub at_row : (r : Row) → In r rows → (v : ℕ) → fault_at rows r.device v ≡ fault_of r.device v (count_by (covers r.device v) rows)
  unfolding fault_at
  at_row r i v = rw (any_yes (λ s. eqb s.device r.device) r rows i (eq-eqb r.device r.device refl)) refl

  pub at_some : (d v : ℕ) {f : Fault} → fault_at rows d v ≡ Some f → (has_row rows d ≡ true) × (fault_of d v (count_by (covers d v) rows) ≡ Some f)
  unfolding fault_at
  at_some d v {f} h = go (has_row rows d) refl h
    where
      go : (b : Bool) → has_row rows d ≡ b → cond b (fault_of d v (count_by (covers d v) rows)) None ≡ Some f
          → (has_row rows d ≡ true) × (fault_of d v (count_by (covers d v) rows) ≡ Some f)
      go true e g = (e, g)
      go false e g = cc

abbrev pub End : Row → ℕ → Type 0
End r v = (v ≡ 0) ⊎ ((v ≡ r.first) ⊎ ((v ≡ r.last + 1) × (r.last < 65535)))

-- a version at an end of a row of a device
pub record AtEnd (rows : List Row) (d v : ℕ) : Type 0 where
  pub row : Row
  pub in_rows : In row rows
  pub device : row.device ≡ d
  pub end : End row v

module _ (rows : List Row) (d : ℕ) where
  pub some_row : has_row rows d ≡ true → (r : Row) × In r rows × (r.device ≡ d)
  some_row h = let found = any_in (λ r. eqb r.device d) rows h in (found.0, found.1, eqb-true _ _ found.2)

  -- a row that ends at u, where more rows cover u than the version behind it
  ends_here : (u : ℕ) → count_by (covers d (suc u)) rows < count_by (covers d u) rows → suc u ≤ 65535 → AtEnd rows d (suc u)
  ends_here u h small =
      let found = more_of (covers d (suc u)) (covers d u) rows h in
      let r = found.0 in
      let on = covers_parts d u r found.2 in
      let no : suc u ≤ r.last → ⊥ = λ g. both_ways _ found.3 (covers_all d (suc u) r on.device (omega arith) g) in
      let last : r.last ≡ u = elim (eq-or-lt_of_le on.last) [ inl e ↦ sym e | inr g ↦ absurd (no (omega arith)) ] in
      record { row = r; in_rows = found.1; device = on.device; end = inr (inr (omega arith, omega arith)) }

  -- a row that begins behind u
  begins_here : (u : ℕ) → count_by (covers d u) rows < count_by (covers d (suc u)) rows → AtEnd rows d (suc u)
  begins_here u h =
      let found = more_of (covers d u) (covers d (suc u)) rows h in
      let r = found.0 in
      let on = covers_parts d (suc u) r found.2 in
      let no : r.first ≤ u → ⊥ = λ g. both_ways _ found.3 (covers_all d u r on.device g (omega arith)) in
      let first : suc u ≡ r.first = elim (eq-or-lt_of_le on.first) [ inl e ↦ sym e | inr g ↦ absurd (no (omega arith)) ] in
      record { row = r; in_rows = found.1; device = on.device; end = inr (inl first) }

  pub lowest_end : (v : ℕ) {f : Fault} → fault_at rows d v ≡ Some f → ((w : ℕ) → w < v → fault_at rows d w ≡ None) → v ≤ 65535 → AtEnd rows d v
  lowest_end zero {f} h low small =
      let r = some_row (at_some rows d zero h).0 in
      record { row = r.0; in_rows = r.1; device = r.2; end = inl refl }
  lowest_end (suc u) {f} h low small =
      let r = some_row (at_some rows d (suc u) h).0 in
      let before : fault_at rows r.0.device u ≡ None = rw r.2 (low u (omega arith)) in
      let one : count_by (covers r.0.device u) rows ≡ 1 = fault_none r.0.device u _ (sym (at_row rows r.0 r.1 u) ∙ before) in
      let once : count_by (covers d u) rows ≡ 1 = rw (← r.2) one in
      elim (fault_some d (suc u) _ (at_some rows d (suc u) h).1) [
        | inl none ↦ ends_here u (omega arith) small
        | inr more ↦ begins_here u (omega arith)
      ]
