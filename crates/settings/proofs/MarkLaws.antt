-- What a mark changes, and what none is
use Rattle.std.proofs.Common.{ℕ, ◌+◌, ◌-◌, ◌*◌, ◌/◌, ◌%◌, ◌^◌, ◌≡◌, ◌<◌, ◌≤◌, inl, inr, Bool, true, false, ◌||◌, ◌&&◌, not, List, length, get_or, set, replicate, eqb, w32, bit_or, refl, arith}
use borrow.Author.Tests.{eq-eqb, ne_eqb}
use Rattle.std.specs.Int.{bit_at}
use Rattle.std.proofs.lemmas.Bool.{cases_eq, cases_lt}
use Rattle.std.proofs.lemmas.List.{get_or-set_same, get_or-set_other, get_or-replicate, get_or_past, length-replicate}
use Rattle.std.proofs.lemmas.Nat.Bits.{bit_at_set_same, bit_at_set_other, bit_at-zero}
use Rattle.settings.specs.Walk.{is_marked}

none_at : (n i : ℕ) → ◌≡◌ {A = ℕ} (get_or (replicate n 0) i 0) 0
none_at n i = elim (cases_lt i n) [ inl h ↦ get_or-replicate n i 0 0 h | inr h ↦ get_or_past (replicate n 0) i 0 (omega (arith, length-replicate {A = ℕ} n 0)) ]

pub no_mark : (n k : ℕ) → is_marked (replicate n 0) k ≡ false
no_mark n k = rw (none_at n (k / 32), bit_at-zero (k % 32)) refl

module _ (ms : List ℕ) (p k : ℕ) (inside : p / 32 < length ms) where
  abbrev marked : List ℕ
  marked = set ms (p / 32) (bit_or (get_or ms (p / 32) 0) (1 * 2 ^ (p % 32) % 4294967296))

  pub one_more_mark : is_marked marked k ≡ eqb p k || is_marked ms k
  one_more_mark = elim (cases_eq (k / 32) (p / 32)) [ inl e ↦ same_word e | inr d ↦ other_word d ]
    where
      other_word : (k / 32 ≡ p / 32 → ⊥) → is_marked marked k ≡ eqb p k || is_marked ms k
      other_word d = rw (get_or-set_other ms (p / 32) (k / 32) (bit_or (get_or ms (p / 32) 0) (1 * 2 ^ (p % 32) % 4294967296)) 0 d, ne_eqb p k (λ e. omega arith)) refl

      same_word : k / 32 ≡ p / 32 → is_marked marked k ≡ eqb p k || is_marked ms k
      same_word e =
          rw (e, get_or-set_same ms (p / 32) (bit_or (get_or ms (p / 32) 0) (1 * 2 ^ (p % 32) % 4294967296)) 0 inside)
          (elim (cases_eq (k % 32) (p % 32)) [ inl f ↦ same_bit e f | inr f ↦ other_bit f ])
        where
          now : ℕ
          now = get_or ms (p / 32) 0

          same_bit : k / 32 ≡ p / 32 → k % 32 ≡ p % 32 → eqb (bit_at (bit_or (get_or ms (p / 32) 0) (1 * 2 ^ (p % 32) % 4294967296)) (k % 32)) 1 ≡ eqb p k || eqb (bit_at (get_or ms (p / 32) 0) (k % 32)) 1
          same_bit e f = rw (f, bit_at_set_same w32 (get_or ms (p / 32) 0) (p % 32) (omega arith), eq-eqb p k (omega arith)) refl

          other_bit : (k % 32 ≡ p % 32 → ⊥) → eqb (bit_at (bit_or (get_or ms (p / 32) 0) (1 * 2 ^ (p % 32) % 4294967296)) (k % 32)) 1 ≡ eqb p k || eqb (bit_at (get_or ms (p / 32) 0) (k % 32)) 1
          other_bit f = rw (bit_at_set_other w32 (get_or ms (p / 32) 0) (p % 32) (omega arith) (k % 32) f, ne_eqb p k (λ e. f (omega arith))) refl

-- a record's mark, if its place is one of those that are marked
pub place_tells : (index base k : ℕ) → base ≤ index → eqb (index - base) k ≡ eqb index (base + k)
place_tells index base k h = elim (cases_eq index (base + k)) [ inl e ↦ rw (eq-eqb index (base + k) e, eq-eqb (index - base) k (omega arith)) refl | inr d ↦ rw (ne_eqb index (base + k) d, ne_eqb (index - base) k (λ e. d (omega arith))) refl ]

pub no_place : (index base k : ℕ) → (index ≡ base + k → ⊥) → (b : Bool) → eqb index (base + k) || b ≡ b
no_place index base k d b = rw (ne_eqb index (base + k) d) refl

-- a record that has no mark from either chain
pub unmarked_both : (a b m n : Bool) → m ≡ a || n → n ≡ b || false → not m ≡ not b && not a
unmarked_both true b m n e f = rw (e) (and_false (not b))
  where
    and_false : (x : Bool) → false ≡ x && false
    and_false true = refl
    and_false false = refl
unmarked_both false true m n e f = rw (e, f) refl
unmarked_both false false m n e f = rw (e, f) refl
