-- Every case of a table holds, by one computed test
use Rattle.std.proofs.Common.{◌≡◌, ℕ, Bool, true, false, ◌&&◌, T, eqb, List, [], ◌∷◌, sym, refl, ap, ◌∙◌, ap₂, eqb→eq}
use mathlib.Core.List.{Memᴰ}
use Rattle.hardware.specs.Bits.{bit}
use Rattle.words.specs.Semaphore.{software, firmware, flash}
use Rattle.words.specs.Kr.{krm}
use Rattle.words.specs.Phy.{phy_id, identifier}
use Rattle.words.specs.Link.{link_of}
use Rattle.words.specs.Hostif.{fits}
use Rattle.words.specs.Cases.{Case, cases}

abbrev same : List ℕ → List ℕ → Bool
same [] [] = true
same [] (y ∷ ys) = false
same (x ∷ xs) [] = false
same (x ∷ xs) (y ∷ ys) = eqb x y && same xs ys

abbrev pub all_same : List Case → Bool
all_same [] = true
all_same (c ∷ cs) = same c.computed c.expected && all_same cs

left : (a b : Bool) → T (a && b) → T a
left true b t = tt
left false b t = t

right : (a b : Bool) → T (a && b) → T b
right true b t = t
right false b t = absurd t

same_equal : (xs ys : List ℕ) → T (same xs ys) → xs ≡ ys
same_equal [] [] t = refl
same_equal [] (y ∷ ys) t = absurd t
same_equal (x ∷ xs) [] t = absurd t
same_equal (x ∷ xs) (y ∷ ys) t =
    ap₂ ◌∷◌ (eqb→eq x y (left (eqb x y) (same xs ys) t)) (same_equal xs ys (right (eqb x y) (same xs ys) t))

pub each : (cs : List Case) → T (all_same cs) → (c : Case) → Memᴰ c cs → c.computed ≡ c.expected
each [] t c m = elim m [ ]
each (d ∷ cs) t c (Memᴰ.head e) =
    ap (λ x. x.computed) e ∙ same_equal d.computed d.expected (left (same d.computed d.expected) (all_same cs) t)
    ∙ sym (ap (λ x. x.expected) e)
each (d ∷ cs) t c (Memᴰ.tail m) = each cs (right (same d.computed d.expected) (all_same cs) t) c m

pub every_case : (c : Case) → Memᴰ c cases → c.computed ≡ c.expected
unfolding cases software firmware flash krm phy_id identifier link_of fits bit
every_case = each cases tt
