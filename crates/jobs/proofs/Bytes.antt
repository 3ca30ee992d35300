-- A command gives a status of one byte, so what goes on from it may go on from the status's lowest byte
use Rattle.std.specs.Prelude.{Err, Ok}
use Rattle.hardware.specs.Talk.{Talk, Call, Res, end, ask, and_then, times, pick, read_raw, Reply}
use Prim.Native.Nat.{ℕ, zero, suc, ◌+◌, ◌/◌, ◌%◌, ◌^◌, ◌<◌}
use mathlib.Core.Bool.{Bool, true, false}
use mathlib.Core.List.{List}
use mathlib.Core.Path.{◌≡◌, refl, ap, fun_ext}
use native.Mathlib.Omega.{arith}
use lib.Dec.{ltb}
use lib.ListN.{length, set}
use Rattle.hardware.specs.Block.{keep, or_stop, ◌>>=◌}
use Rattle.hardware.specs.declared.Action.{Action}
use Rattle.hardware.specs.declared.Error.{Error}
use Rattle.hardware.specs.declared.Port.{Port}
use Rattle.words.specs.Hostif.{flex_mng, fits, reply_words}
use Rattle.reference.specs.Sync.{with_block, held, held_given, held_done, held_taken, acquire_bits, release_bits}
use Rattle.jobs.specs.Token.{status_of}
use Rattle.reference.specs.Hostif.{post, rest, reply_length, reply_status, received, exchange, command}

-- each good end is a byte
data Bytes : Talk (Res ℕ × List ℕ) → Type 0 where
  status : {v : ℕ} {b : List ℕ} → v < 256 → Bytes (end (Ok v, b))
  stopped : {e : Error} {b : List ℕ} → Bytes (end (Err e, b))
  asks : {a : Action} {k : Reply → Talk (Res ℕ × List ℕ)} → ((r : Reply) → Bytes (k r)) → Bytes (ask a k)

then_bytes : {A : Type 0} (t : Talk A) (k : A → Talk (Res ℕ × List ℕ)) → ((a : A) → Bytes (k a)) → Bytes (and_then t k)
then_bytes (end a) k h = h a
then_bytes (ask a c) k h = asks (λ r. then_bytes (c r) k h)

stop_bytes : {A : Type 0} (k : A → List ℕ → Talk (Res ℕ × List ℕ)) → ((a : A) (b : List ℕ) → Bytes (k a b)) → (r : Res A) (b : List ℕ)
    → Bytes (or_stop k r b)
stop_bytes k h (Ok a) b = h a b
stop_bytes k h (Err e) b = stopped

bind_bytes : {A : Type 0} (t : List ℕ → Talk (Res A × List ℕ)) (k : A → List ℕ → Talk (Res ℕ × List ℕ)) → ((a : A) (b : List ℕ) → Bytes (k a b))
    → (b : List ℕ) → Bytes ((t >>= k) b)
bind_bytes t k h b = then_bytes (t b) (λ p. or_stop k p.0 p.1) (λ p. stop_bytes k h p.0 p.1)

pick_bytes : (c : Bool) {s t : Talk (Res ℕ × List ℕ)} → Bytes s → Bytes t → Bytes (pick c s t)
pick_bytes true hs ht = hs
pick_bytes false hs ht = ht

rest_bytes : (n v : ℕ) → v < 256 → (i : ℕ) (b : List ℕ) → Bytes (rest n v i b)
unfolding times
rest_bytes zero v h i b = status h
rest_bytes (suc n) v h i b =
    pick_bytes (ltb i (length b))
    (bind_bytes (keep (read_raw (flex_mng i))) (λ w b. rest n v (i + 1) (set b i w)) (λ w b. rest_bytes n v h (i + 1) (set b i w)) b)
    (status h)

byte : (n : ℕ) → n % 256 < 256
byte n = omega arith

received_bytes : (last head : ℕ) (b : List ℕ) → Bytes (received last head b)
unfolding received
received_bytes last head b =
    pick_bytes (fits (reply_length head) (length b))
    (rest_bytes (reply_words (reply_length head)) (reply_status head) (byte (head / 2 ^ 16)) 1 (set b 0 head))
    stopped

exchange_bytes : (b : List ℕ) → Bytes (exchange b)
exchange_bytes b =
    bind_bytes (keep (post b)) (λ last. keep (read_raw 0x15800) >>= received last)
    (λ last. bind_bytes (keep (read_raw 0x15800)) (received last) (received_bytes last))
    b

-- the release's error takes the place of a status
given_bytes : (b : List ℕ) (give : Call (Unit {0})) {t : Talk (Res ℕ × List ℕ)} → Bytes t → Bytes (and_then t (held_done (with_block b) give))
given_bytes b give (status {v} {b = b'} h) = then_bytes give (held_given (with_block b) (Ok v, b')) (given h)
  where
    given : {v : ℕ} {b' : List ℕ} → v < 256 → (r : Res (Unit {0})) → Bytes (held_given (with_block b) (Ok v, b') r)
    given h (Ok _) = status h
    given h (Err e) = stopped
given_bytes b give (stopped {e} {b = b'}) = then_bytes give (held_given (with_block b) (Err e, b')) (λ r. stopped)
given_bytes b give (asks h) = asks (λ r. given_bytes b give (h r))

taken_bytes : (b : List ℕ) (give : Call (Unit {0})) (r : Res (Unit {0})) → Bytes (held_taken (with_block b) give (exchange b) r)
taken_bytes b give (Ok _) = given_bytes b give (exchange_bytes b)
taken_bytes b give (Err e) = stopped

held_bytes : (take give : Call (Unit {0})) (b : List ℕ) → Bytes (held (with_block b) take give (exchange b))
held_bytes take give b = then_bytes take (held_taken (with_block b) give (exchange b)) (taken_bytes b give)

small : (v : ℕ) → v < 256 → v % 256 ≡ v
small v h = omega arith

cut : {B : Type 0} (f : Res ℕ × List ℕ → Talk B) {t : Talk (Res ℕ × List ℕ)} → Bytes t → and_then t (λ p. f (status_of p.0, p.1)) ≡ and_then t f
cut f (status {v} {b} h) = ap (λ (s : ℕ). f (Ok s, b)) (small v h)
cut f stopped = refl
cut f (asks {a} h) = ap (ask a) (fun_ext (λ r. cut f (h r)))

-- so what goes on from an exchange under a lock may go on from its status's lowest byte
pub held_cut : (take give : Call (Unit {0})) (b : List ℕ) {B : Type 0} (f : Res ℕ × List ℕ → Talk B)
    → and_then (held (with_block b) take give (exchange b)) (λ p. f (status_of p.0, p.1)) ≡ and_then (held (with_block b) take give (exchange b)) f
held_cut take give b f = cut f (held_bytes take give b)

-- a command is one
pub status_cut : (port : Port) (b : List ℕ) {B : Type 0} (f : Res ℕ × List ℕ → Talk B)
    → and_then (command port b) (λ p. f (status_of p.0, p.1)) ≡ and_then (command port b) f
unfolding command
status_cut port b f = held_cut (acquire_bits port 0x400) (release_bits port 0x400) b f
