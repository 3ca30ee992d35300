-- The windows' tests are what a reader counts
use Rattle.std.proofs.Common.{ℕ, ◌+◌, ◌-◌, ◌*◌, ◌%◌, ◌≡◌, ◌<◌, ◌≤◌, ◌⊎◌, ◌↔◌, inl, inr, Bool, true, false, ◌&&◌, ◌||◌, not, List, [], ◌∷◌, length, eqb, leb, ltb, Some, refl, ap, sym, ◌∙◌, arith, true≢false}
use Rattle.std.proofs.lemmas.Bool.{leb-true, leb-false, le-leb, ltb-true, ltb-false, lt-ltb, eqb-false}
use Rattle.std.proofs.Math.Nat.{mod-eq_of_lt, add-mul-mod_self_left}
use Rattle.hardware.specs.Talk.{pick}
use Rattle.operations.specs.Windows.{week, holds, in_some, inside, is_window, are_windows, are_good, are_bad}
use Rattle.operations.specs.Counted.{Counted, SomeCounted}

this_week : (x : ℕ) → x < 10080 → x % 10080 ≡ x
this_week x h = mod-eq_of_lt h

next_week : (x : ℕ) → x < 10080 → (x + 10080) % 10080 ≡ x
next_week x h = add-mul-mod_self_left x 10080 1 ∙ this_week x h

both : (a b : Bool) → (a && b) ≡ true → (a ≡ true) × (b ≡ true)
both true b h = (refl, h)
both false b h = absurd (true≢false (sym h))

was_false : (b : Bool) → not b ≡ true → b ≡ false
was_false true h = absurd (true≢false (sym h))
was_false false h = refl

was_true : (b : Bool) → not b ≡ false → b ≡ true
was_true true h = refl
was_true false h = absurd (true≢false h)

module _ (start end minute : ℕ) (s : start < 10080) (e : end < 10080) (m : minute < 10080) where
  -- from the start on, in the same week
  on_from : start ≤ minute → (end < start) ⊎ (minute < end) → Counted start end minute
  on_from a h =
      record {
        on = minute - start;
        there =
            let same : start + (minute - start) ≡ minute = omega arith in
            ap (λ x. x % 10080) same ∙ this_week minute m;
        before = λ k l z.
            let low : start + k < 10080 = omega arith in
            let at : start + k ≡ end = sym (this_week (start + k) low) ∙ z in
            never k l at h;
      }
    where
      never : (k : ℕ) → k ≤ minute - start → start + k ≡ end → (end < start) ⊎ (minute < end) → ⊥
      never k l at (inl f) = omega arith
      never k l at (inr f) = omega arith

  -- before the end, in the next week
  round : end < start → minute < end → Counted start end minute
  round f g =
      record {
        on = minute + 10080 - start;
        there =
            let same : start + (minute + 10080 - start) ≡ minute + 10080 = omega arith in
            ap (λ x. x % 10080) same ∙ next_week minute m;
        before = λ k l z. never k l z (ltb (start + k) 10080) refl;
      }
    where
      never : (k : ℕ) → k ≤ minute + 10080 - start → (start + k) % 10080 ≡ end → (b : Bool) → ltb (start + k) 10080 ≡ b → ⊥
      never k l z true h =
          let low : start + k < 10080 = ltb-true _ _ h in
          let at : start + k ≡ end = sym (this_week (start + k) low) ∙ z in
          omega arith
      never k l z false h =
          let high : 10080 ≤ start + k = ltb-false _ _ h in
          let x : ℕ = start + k - 10080 in
          let same : x + 10080 ≡ start + k = omega arith in
          let low : x < 10080 = omega arith in
          let at : x ≡ end = sym (next_week x low) ∙ ap (λ y. y % 10080) same ∙ z in
          omega arith

  above : ltb start end ≡ false → eqb start end ≡ false → end < start
  above f n =
      let le : end ≤ start = ltb-false _ _ f in
      let ne : start ≡ end → ⊥ = eqb-false _ _ n in
      omega (arith, ne)

  tells : (b c d : Bool) → ltb start end ≡ b → leb start minute ≡ c → ltb minute end ≡ d → eqb start end ≡ false
      → pick b (c && d) (c || d) ≡ true → Counted start end minute
  tells true true true f g h n t = on_from (leb-true _ _ g) (inr (ltb-true _ _ h))
  tells true true false f g h n t = absurd (true≢false (sym t))
  tells true false d f g h n t = absurd (true≢false (sym t))
  tells false true d f g h n t = on_from (leb-true _ _ g) (inl (above f n))
  tells false false true f g h n t = round (above f n) (ltb-true _ _ h)
  tells false false false f g h n t = absurd (true≢false (sym t))

  -- within the week of its start
  counted_low : (c : Counted start end minute) → start < end → (start ≤ minute) × (minute < end)
  counted_low c f = go (ltb c.on (end - start)) refl
    where
      go : (b : Bool) → ltb c.on (end - start) ≡ b → (start ≤ minute) × (minute < end)
      go true h =
          let few : c.on < end - start = ltb-true _ _ h in
          let low : start + c.on < 10080 = omega arith in
          let at : start + c.on ≡ minute = sym (this_week (start + c.on) low) ∙ c.there in
          (omega arith, omega arith)
      go false h =
          let many : end - start ≤ c.on = ltb-false _ _ h in
          let at : start + (end - start) ≡ end = omega arith in
          absurd (c.before (end - start) many (ap (λ x. x % 10080) at ∙ this_week end e))

  -- or in the next
  counted_round : (c : Counted start end minute) → end < start → (start ≤ minute) ⊎ (minute < end)
  counted_round c f = go (ltb c.on (end + 10080 - start)) refl (ltb (start + c.on) 10080) refl
    where
      go : (b : Bool) → ltb c.on (end + 10080 - start) ≡ b → (d : Bool) → ltb (start + c.on) 10080 ≡ d → (start ≤ minute) ⊎ (minute < end)
      go true h true g =
          let low : start + c.on < 10080 = ltb-true _ _ g in
          let at : start + c.on ≡ minute = sym (this_week (start + c.on) low) ∙ c.there in
          inl (omega arith)
      go true h false g =
          let few : c.on < end + 10080 - start = ltb-true _ _ h in
          let high : 10080 ≤ start + c.on = ltb-false _ _ g in
          let x : ℕ = start + c.on - 10080 in
          let same : x + 10080 ≡ start + c.on = omega arith in
          let low : x < 10080 = omega arith in
          let at : x ≡ minute = sym (next_week x low) ∙ ap (λ y. y % 10080) same ∙ c.there in
          inr (omega arith)
      go false h d g =
          let many : end + 10080 - start ≤ c.on = ltb-false _ _ h in
          let at : start + (end + 10080 - start) ≡ end + 10080 = omega arith in
          absurd (c.before (end + 10080 - start) many (ap (λ x. x % 10080) at ∙ next_week end e))

  said : (b : Bool) → ltb start end ≡ b → eqb start end ≡ false → Counted start end minute
      → pick b (leb start minute && ltb minute end) (leb start minute || ltb minute end) ≡ true
  said true f n c =
      let p = counted_low c (ltb-true _ _ f) in
      rw (le-leb _ _ p.0, lt-ltb _ _ p.1) refl
  said false f n c = go (counted_round c (above f n)) (leb start minute) refl
    where
      go : (start ≤ minute) ⊎ (minute < end) → (b : Bool) → leb start minute ≡ b → (b || ltb minute end) ≡ true
      go x true g = refl
      go (inl l) false g = let lt : minute < start = leb-false _ _ g in absurd (omega arith)
      go (inr l) false g = lt-ltb _ _ l

-- of every two minutes that are a window
pub window_counted : (start end minute : ℕ) → is_window start end ≡ true → ltb minute week ≡ true
    → (holds start end minute ≡ true) ↔ Counted start end minute
window_counted start end minute w m =
    let p = both (ltb start week && ltb end week) (not (eqb start end)) w in
    let q = both (ltb start week) (ltb end week) p.0 in
    let s : start < 10080 = ltb-true _ _ q.0 in
    let e : end < 10080 = ltb-true _ _ q.1 in
    let n : eqb start end ≡ false = was_false (eqb start end) p.1 in
    let k : minute < 10080 = ltb-true _ _ m in (
      tells start end minute s e k (ltb start end) (leb start minute) (ltb minute end) refl refl refl n,
      said start end minute s e k (ltb start end) refl n,
    )

-- of every list of windows
counted_in : (minute : ℕ) (ws : List ℕ) → ltb minute week ≡ true → are_windows ws ≡ true → (in_some minute ws ≡ true) ↔ SomeCounted minute ws
counted_in minute [] m g = ((λ h. absurd (true≢false (sym h))), (λ c. absurd c))
counted_in minute (start ∷ []) m g = absurd (true≢false (sym g))
counted_in minute (start ∷ end ∷ ws) m g =
    let p = both (is_window start end) (are_windows ws) g in
    let one = window_counted start end minute p.0 m in
    let rest = counted_in minute ws m p.1 in
    (go (holds start end minute) refl one.0 rest.0, back one.1 rest.1)
  where
    go : (b : Bool) → holds start end minute ≡ b → (holds start end minute ≡ true → Counted start end minute)
        → (in_some minute ws ≡ true → SomeCounted minute ws) → (b || in_some minute ws) ≡ true → Counted start end minute ⊎ SomeCounted minute ws
    go true e one rest h = inl (one e)
    go false e one rest h = inr (rest h)

    back : (Counted start end minute → holds start end minute ≡ true) → (SomeCounted minute ws → in_some minute ws ≡ true)
        → Counted start end minute ⊎ SomeCounted minute ws → (holds start end minute || in_some minute ws) ≡ true
    back one rest (inl c) = rw (one c) refl
    back one rest (inr c) = rw (rest c) (or_true (holds start end minute))
      where
        or_true : (b : Bool) → (b || true) ≡ true
        or_true true = refl
        or_true false = refl

-- a poll that is not turned away for its minute and its windows is inside just where a reader counts it so
pub inside_counted : (minute : ℕ) (ws : List ℕ) → are_bad (Some minute) ws ≡ false → (inside (Some minute) ws ≡ true) ↔ SomeCounted minute ws
inside_counted minute ws g =
    let p = both (ltb minute week && leb (length ws) (2 * 32)) (are_windows ws) (was_true (are_good minute ws) g) in
    let q = both (ltb minute week) (leb (length ws) (2 * 32)) p.0 in
    counted_in minute ws q.0 p.1
