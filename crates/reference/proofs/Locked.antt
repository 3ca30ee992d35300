-- `locked` is the Rust's, and `locked_bits` is `locked` where the mask has no TOKEN
use Rattle.std.specs.Prelude.{Ok, Err}
use Prim.Native.Nat.{ℕ, zero, suc, ◌+◌, ◌-◌, ◌*◌, ◌/◌, ◌%◌, ◌^◌, ◌<◌, min}
use mathlib.Core.Path.{◌≡◌, refl, sym, ap, ap₂, ◌∙◌, fun_ext}
use mathlib.Core.Bool.{true}
use mathlib.Core.List.{List}
use native.Mathlib.Omega.{arith}
use native.Mathlib.Nat.{pow-suc, mod-lt, zero-lt-suc, div-add-mod'}
use lib.Bits.{bit_and, and_step, and_zero_l}
use borrow.Author.Tests.{eqb-true, ne_eqb}
use Rattle.hardware.specs.Talk.{Talk, Call, Res, end, and_then, or_stop, ◌>>=◌, ◌>>◌, attempt, return, is_clear}
use Rattle.hardware.specs.Block.{keep}
use Rattle.hardware.specs.declared.Port.{Port}
use Rattle.hardware.proofs.Laws.{then_end, then_assoc}
use Rattle.reference.specs.Sync.{Ending, plain, with_block, held, held_given, held_done, held_taken, both, locked_bits, acquire_bits, release_bits}
use Rattle.reference.specs.Hostif.{command, exchange}
use Rattle.reference.specs.Acquire.{hw_of, acquire, release, release_rest, locked}

digit : (x y : ℕ) → x < 2 → min x y ≡ 0 → min x (1 - y) ≡ x
digit x y h e = omega arith

high : (x y : ℕ) → x * 2 + y ≡ 0 → x ≡ 0
high x y e = omega arith

low : (x y : ℕ) → x * 2 + y ≡ 0 → y ≡ 0
low x y e = omega arith

-- clearing bits that a word does not have changes nothing
keeps : (n v b : ℕ) → v < 2 ^ n → b < 2 ^ n → bit_and v b ≡ 0 → bit_and v (2 ^ n - 1 - b) ≡ v
keeps zero v b hv hb e = let z : v ≡ 0 = omega arith in ap (λ x. bit_and x (2 ^ 0 - 1 - b)) z ∙ and_zero_l (2 ^ 0 - 1 - b) ∙ sym z
keeps (suc n) v b hv hb e =
    let c : (2 ^ suc n - 1 - b) / 2 ≡ 2 ^ n - 1 - b / 2 = omega (arith, pow-suc 2 n) in
    let d : (2 ^ suc n - 1 - b) % 2 ≡ 1 - b % 2 = omega (arith, pow-suc 2 n) in
    and_step v (2 ^ suc n - 1 - b)
    ∙ ap₂ (λ x y. bit_and (v / 2) x * 2 + min (v % 2) y) c d
    ∙ ap₂ (λ x y. x * 2 + y)
    (keeps n (v / 2) (b / 2) (omega (arith, pow-suc 2 n)) (omega (arith, pow-suc 2 n)) (high (bit_and (v / 2) (b / 2)) _ (sym (and_step v b) ∙ e)))
    (digit (v % 2) (b % 2) (mod-lt v (zero-lt-suc 1)) (low (bit_and (v / 2) (b / 2)) _ (sym (and_step v b) ∙ e)))
    ∙ div-add-mod' v 2

no_token : (mask : ℕ) → mask < 2 ^ 32 → is_clear mask 0x40000000 ≡ true → hw_of mask ≡ mask
no_token mask h c = keeps 32 mask 0x40000000 h (omega arith) (eqb-true (bit_and mask 0x40000000) 0 c)

pub acquire_bits_lem : (port : Port) (mask : ℕ) → mask < 2 ^ 32 → is_clear mask 0x40000000 ≡ true → acquire port mask ≡ acquire_bits port mask
unfolding acquire
acquire_bits_lem port mask h c = rw c (ap (acquire_bits port) (no_token mask h c))

-- a unit's value is known
same_unit : (r : Res (Unit {0})) → or_stop (λ (_ : Unit {0}). end (Ok tt)) r ≡ end r
same_unit (Ok _) = refl
same_unit (Err e) = refl

last_unit : (t : Call (Unit {0})) → (t >> end (Ok tt)) ≡ t
last_unit t = ap (and_then t) (fun_ext same_unit) ∙ then_end t

pub release_bits_lem : (port : Port) (mask : ℕ) → mask < 2 ^ 32 → is_clear mask 0x40000000 ≡ true → (mask ≡ 0 → ⊥) → release port mask ≡ release_bits port mask
unfolding release release_rest
release_bits_lem port mask h c z = rw (c, no_token mask h c, ne_eqb mask 0 z) (last_unit (release_bits port mask))

-- `release` of mask 0 does nothing, where `release_bits` of it has actions
pub release_nothing : (port : Port) → release port 0 ≡ return tt
unfolding release release_rest
release_nothing port = refl

pub locked_bits_lem : {X : Type 0} (ending : Ending X) (port : Port) (mask : ℕ) (body : Talk X)
    → mask < 2 ^ 32 → is_clear mask 0x40000000 ≡ true → (mask ≡ 0 → ⊥)
    → locked ending port mask body ≡ locked_bits ending port mask body
locked_bits_lem ending port mask body h c z =
    ap₂ (λ take give. held ending take give body) (acquire_bits_lem port mask h c) (release_bits_lem port mask h c z)

-- so `command` holds SW_MNG by the same `locked`
pub command_locked : (port : Port) (b : List ℕ) → command port b ≡ locked (with_block b) port 0x400 (exchange b)
unfolding command
command_locked port b = sym (locked_bits_lem (with_block b) port 0x400 (exchange b) (omega arith) refl (λ e. omega arith))

-- line by line as the Rust has it
pub locked_lines : {A : Type 0} (port : Port) (mask : ℕ) (body : Call A)
    → locked plain port mask body ≡
    (do
      acquire port mask
      result ← attempt body
      released ← attempt (release port mask)
      value ← end result
      end released
      return value)
locked_lines {A = A} port mask body =
    ap (and_then (acquire port mask)) (fun_ext taken)
  where
    lines : Res A → Call A
    lines result = attempt (release port mask) >>= (λ released. end result >>= (λ value. end released >> return value))

    given : (result : Res A) (released : Res (Unit {0})) → end (both result released) ≡ (end result >>= (λ value. end released >> return value))
    given (Err e) released = refl
    given (Ok value) (Err e) = refl
    given (Ok value) (Ok _) = refl

    done : (result : Res A) → and_then (release port mask) (λ released. end (both result released)) ≡ lines result
    done result =
        ap (and_then (release port mask)) (fun_ext (given result))
        ∙ sym (then_assoc (release port mask) (λ r. end (Ok r)) (or_stop (λ released. end result >>= (λ value. end released >> return value))))

    taken : (r : Res (Unit {0})) → held_taken plain (release port mask) body r ≡ or_stop (λ (_ : Unit {0}). attempt body >>= lines) r
    taken (Err e) = refl
    taken (Ok _) = ap (and_then body) (fun_ext done) ∙ sym (then_assoc body (λ r. end (Ok r)) (or_stop lines))

-- a body that leaves the host block alone is held in the same way with the block beside it
pub held_keep : {A : Type 0} (take give : Call (Unit {0})) (body : Call A) (b : List ℕ)
    → keep (held plain take give body) b ≡ held (with_block b) take give (keep body b)
held_keep {A = A} take give body b =
    then_assoc take (held_taken plain give body) (λ r. end (r, b)) ∙ ap (and_then take) (fun_ext taken)
  where
    done : (x : Res A) → and_then (held_done plain give x) (λ r. end (r, b)) ≡ held_done (with_block b) give (x, b)
    done x = then_assoc give (held_given plain x) (λ r. end (r, b))

    taken : (r : Res (Unit {0})) → and_then (held_taken plain give body r) (λ x. end (x, b)) ≡ held_taken (with_block b) give (keep body b) r
    taken (Err e) = refl
    taken (Ok _) =
        then_assoc body (held_done plain give) (λ r. end (r, b))
        ∙ ap (and_then body) (fun_ext done)
        ∙ sym (then_assoc body (λ r. end (r, b)) (held_done (with_block b) give))
