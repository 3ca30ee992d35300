-- Bounds of the forms that the definitions are made of
use Rattle.std.specs.Prelude.{Ok, Err}
use Prim.Native.Nat.{ℕ, zero, suc, ◌+◌, ◌*◌}
use mathlib.Core.List.{List}
use native.Mathlib.Omega.{arith}
use native.Mathlib.Nat.{suc-mul}
use Rattle.hardware.specs.Bound.{Within, at_end, at_ask}
use Rattle.hardware.specs.Talk.{Talk, Call, Res, end, and_then, ◌>>=◌, attempt, times, read, read_raw, write, flush, delay}
use Rattle.hardware.specs.Block as blk
use Rattle.hardware.specs.declared.Action.TheVariants as action
use Rattle.hardware.proofs.Bounds.{within_more, within_then, within_stop}
use Rattle.reference.specs.Sync.{Ending, held, held_taken}

pub of_read : (reg : ℕ) → Within (read reg) 1 0
of_read reg = at_ask {a = action.Read reg} {n = 0} {m = 0} {n' = 1} {m' = 0} (omega arith) (omega arith) (λ r. at_end)

pub of_raw : (reg : ℕ) → Within (read_raw reg) 1 0
of_raw reg = at_ask {a = action.Read reg} {n = 0} {m = 0} {n' = 1} {m' = 0} (omega arith) (omega arith) (λ r. at_end)

pub of_write : (reg value : ℕ) → Within (write reg value) 1 0
of_write reg value = at_ask {a = action.Write reg value} {n = 0} {m = 0} {n' = 1} {m' = 0} (omega arith) (omega arith) (λ r. at_end)

pub of_flush : Within flush 1 0
of_flush = at_ask {a = action.Read 0x8} {n = 0} {m = 0} {n' = 1} {m' = 0} (omega arith) (omega arith) (λ r. at_end)

pub of_delay : (micros : ℕ) → Within (delay micros) 1 micros
of_delay micros = at_ask {a = action.Wait micros} {n = 0} {m = 0} {n' = 1} {m' = micros} (omega arith) (omega arith) (λ r. at_end)

pub of_end : {A : Type 0} {a : A} → Within (end a) 0 0
of_end = at_end

-- the Rust's `?`
pub of_bind : {A B : Type 0} {t : Call A} {k : A → Call B} {n m n' m' : ℕ} → Within t n m → ((a : A) → Within (k a) n' m') → Within (t >>= k) (n + n') (m + m')
of_bind w h = within_then w (λ r. within_stop r h)

pub of_try : {A B : Type 0} (r : Res A) {k : A → Call B} {n m : ℕ} → ((a : A) → Within (k a) n m) → Within (end r >>= k) n m
of_try r h = within_stop r h

pub of_attempt : {A B : Type 0} {t : Call A} {k : Res A → Call B} {n m n' m' : ℕ} → Within t n m → ((r : Res A) → Within (k r) n' m')
    → Within (attempt t >>= k) (n + n') (m + m')
of_attempt w h = of_bind (within_more (omega arith) (omega arith) (within_then {n' = 0} {m' = 0} w (λ r. at_end))) h

-- a loop whose turns hand a value on: so much a turn, and what comes after it
pub of_carry : {S A : Type 0} (turn : (S → Talk A) → S → Talk A) (after : S → Talk A) (d e x n m : ℕ)
    → ((f : S → Talk A) (n m : ℕ) → ((s : S) → Within (f s) n m) → (s : S) → Within (turn f s) (d + n) (e + m)) → ((s : S) → Within (after s) n m)
    → (s : S) → Within (times x turn after s) (x * d + n) (x * e + m)
unfolding times
of_carry turn after d e zero n m h w s = within_more {n = n} {m = m} (omega arith) (omega arith) (w s)
of_carry turn after d e (suc x) n m h w s =
    within_more {n = d + (x * d + n)} {m = e + (x * e + m)} (omega (arith, suc-mul x d)) (omega (arith, suc-mul x e))
    (h (times x turn after) (x * d + n) (x * e + m) (of_carry turn after d e x n m h w) s)

-- the same where they hand the block on too
pub of_block : {S B A : Type 0} (turn : (S → B → Talk A) → S → B → Talk A) (after : S → B → Talk A) (d e x n m : ℕ)
    → ((f : S → B → Talk A) (n m : ℕ) → ((s : S) (b : B) → Within (f s b) n m) → (s : S) (b : B) → Within (turn f s b) (d + n) (e + m))
    → ((s : S) (b : B) → Within (after s b) n m)
    → (s : S) (b : B) → Within (times x turn after s b) (x * d + n) (x * e + m)
unfolding times
of_block turn after d e zero n m h w s b = within_more {n = n} {m = m} (omega arith) (omega arith) (w s b)
of_block turn after d e (suc x) n m h w s b =
    within_more {n = d + (x * d + n)} {m = e + (x * e + m)} (omega (arith, suc-mul x d)) (omega (arith, suc-mul x e))
    (h (times x turn after) (x * d + n) (x * e + m) (of_block turn after d e x n m h w) s b)

-- take, body, give
pub of_held : {X : Type 0} (ending : Ending X) {take give : Call (Unit {0})} {body : Talk X} {n m n' m' k l : ℕ}
    → Within take n m → Within give n' m' → Within body k l → Within (held ending take give body) (n + (k + n')) (m + (l + m'))
of_held {X} ending {give = give} {body = body} {n' = n'} {m' = m'} {k = k} {l = l} t g b = within_then t taken
  where
    given : Within (and_then body (λ x. and_then give (λ r. end (ending.after x r)))) (k + n') (l + m')
    given = within_then b (λ x. within_more (omega arith) (omega arith) (within_then {n' = 0} {m' = 0} g (λ r. at_end)))

    taken : (r : Res (Unit {0})) → Within (held_taken ending give body r) (k + n') (l + m')
    taken (Err e) = at_end
    taken (Ok _) = given

-- what leaves the host block alone, and the Rust's `?` of a function that is lent it
pub of_keep : {A : Type 0} {t : Call A} {n m : ℕ} (b : List ℕ) → Within t n m → Within (blk.keep t b) n m
of_keep b w = within_more (omega arith) (omega arith) (within_then {n' = 0} {m' = 0} w (λ r. at_end))

pub of_lent : {A B : Type 0} {t : Talk (Res A × List ℕ)} {k : A → List ℕ → Talk (Res B × List ℕ)} {n m n' m' : ℕ}
    → Within t n m → ((a : A) (b : List ℕ) → Within (k a b) n' m') → Within (and_then t (λ p. blk.or_stop k p.0 p.1)) (n + n') (m + m')
of_lent {k = k} {n' = n'} {m' = m'} w h = within_then w (λ p. go p.0 p.1)
  where
    go : (r : Res _) (b : List ℕ) → Within (blk.or_stop k r b) n' m'
    go (Ok a) b = h a b
    go (Err e) b = at_end
