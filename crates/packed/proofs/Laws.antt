-- Words behind each other are words; what is read of them is what was written
use Prim.Native.Nat.{ℕ, ◌+◌, ◌%◌, ◌/◌, ◌≤◌}
use native.Mathlib.Omega.{arith}
use mathlib.Core.Path.{◌≡◌, refl, ap, sym, ◌∙◌}
use mathlib.Core.Bool.{Bool, true, false}
use mathlib.Core.List.{List, [], ◌∷◌, ◌++◌}
use lib.ListN.{length, take, replicate, length-take, replicate-append-replicate}
use lib.Seq.{take_all}
use Rattle.answers.proofs.Laws.{more, nothing_more}
use Rattle.packed.specs.Tape.{Adds, is, flag_of, joined}

-- no word more
pub none : (n : ℕ) (ws : List ℕ) → Adds n ws [] n ws
none n ws = record { words = nothing_more n ws; room = refl }

-- words, then words behind them
pub then : {a r r' : ℕ} {ws xs ws' ys ws'' : List ℕ} → Adds a ws xs r ws' → Adds r ws' ys r' ws'' → Adds a ws (xs ++ ys) r' ws''
then {a} {ws = ws} {xs = xs} {ys = ys} p q =
    record {
      words = q.words ∙ rw (p.room, p.words) (more (length ws) (take a ws) xs ys);
      room = q.room ∙ p.room;
    }

pub word_then : {a r r' x : ℕ} {ws ws' ys ws'' : List ℕ} → Adds a ws (x ∷ []) r ws' → Adds r ws' ys r' ws'' → Adds a ws (x ∷ ys) r' ws''
word_then p q = then p q

pub zero_more : (i : ℕ) {a r r' : ℕ} {ws ws' ws'' : List ℕ} → Adds a ws (replicate i 0) r ws' → Adds r ws' (0 ∷ []) r' ws'' → Adds a ws (replicate (i + 1) 0) r' ws''
zero_more i p q = rw (← replicate-append-replicate {A = ℕ} i 1 0) (then p q)

-- a tape that was filled from its start
pub filled : {r : ℕ} {ws xs ws' : List ℕ} → length ws ≡ length xs → Adds 0 ws xs r ws' → ws' ≡ xs
filled {r} {ws} {xs} {ws'} l p =
    let all : take r ws' ≡ xs = p.words ∙ rw l (take_all (length xs) xs (omega arith)) in
    let enough : length ws' ≤ r = omega (arith, simp length-take at (ap length all), p.room, l) in
    sym (take_all r ws' enough) ∙ all

pub is_flag : (b : Bool) → is (flag_of b) ≡ b
is_flag true = refl
is_flag false = refl

pub joined_back : (n : ℕ) → joined (n % 4294967296) (n / 4294967296) ≡ n
joined_back n = omega arith
