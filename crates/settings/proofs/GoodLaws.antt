-- What a good record's test tells
use Rattle.std.proofs.Common.{ℕ, ◌⊎◌, inl, inr, ◌||◌, not, ◌+◌, ◌*◌, ◌≡◌, ◌<◌, Bool, true, false, ◌&&◌, List, length, ltb, leb, refl, arith}
use borrow.Author.Tests.{ltb-true}
use Rattle.settings.specs.Records.{records, version, pause, veto}
use Rattle.settings.specs.Whole.{is_pause, is_good}

pub and_left : (a b : Bool) → a && b ≡ true → a ≡ true
and_left true b h = refl
and_left false b h = h

pub and_right : (a b : Bool) → a && b ≡ true → b ≡ true
and_right true b h = h
and_right false b h = cc

pub and_all : (a b : Bool) → a ≡ true → b ≡ true → a && b ≡ true
and_all a b e f = rw (e, f) refl

pub or_right : (b : Bool) → b || true ≡ true
or_right true = refl
or_right false = refl

-- what is not outside both of two is in one
pub in_one : (a b : Bool) → not a && not b ≡ false → (a ≡ true) ⊎ (b ≡ true)
in_one true b e = inl refl
in_one false true e = inr refl
in_one false false e = absurd (let z : ⊥ = cc in z)

pub good_inside : (s : List ℕ) (i : ℕ) → is_good s i ≡ true → i < records s
unfolding is_good
good_inside s i h =
    let a = ltb i (records s) in
    let b = leb 1 (version s i) in
    let c = is_pause (pause s i) in
    let d = leb (veto s i) 1 in
    ltb-true i (records s) (and_left a b (and_left (a && b) c (and_left (a && b && c) d (and_left (a && b && c && d) _ h))))

-- all eight words of a record lie in the store
pub inside_words : (s : List ℕ) (i : ℕ) → i < records s → 8 * i + 7 < length s
inside_words s i h = omega arith
