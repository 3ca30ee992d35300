-- An access done whole and alone is the table's step
use Rattle.std.specs.Prelude.{Ok}
use Rattle.hardware.specs.Talk.{Talk, Call, Res, end, ask, and_then, or_stop, ◌>>=◌, ◌>>◌, times, pick, is_clear, fail, return, raw, read_raw, write, Reply}
use Prim.Native.Nat.{ℕ, zero, suc, ◌+◌, ◌*◌, ◌/◌, ◌%◌, ◌^◌, ◌<◌, min}
use native.Mathlib.Omega.{arith}
use native.Mathlib.Nat.{pow-suc}
use mathlib.Core.Path.{◌≡◌, refl, sym, ap, ap₂, ◌∙◌, subst}
use mathlib.Core.Bool.{Bool, true, false, and-false, true≢false}
use borrow.Author.Tests.{eq-eqb}
use lib.Bits.{bit_and, and_step, and_shr, and_zero_r, or_zero_r}
use lib.Dec.{eqb, lit<}
use Rattle.hardware.specs.Bits.{bit, without}
use Rattle.hardware.specs.Regs.{regs}
use Rattle.hardware.specs.Talk as talk
use Rattle.hardware.specs.declared.Action.TheVariants as action
use Rattle.hardware.specs.declared.Error.TheVariants.{Sideband}
use Rattle.hardware.specs.declared.Family.{Family}
use Rattle.hardware.specs.declared.Family.TheVariants.{X552, X553}
use Rattle.hardware.specs.declared.Port.{Port}
use Rattle.words.specs.Semaphore.{software, firmware, flash, bits}
use Rattle.reference.specs.Acquire.{locked}
use Rattle.reference.specs.Sync.{
  mux_at,
  mux,
  acquire_bits_times,
  acquire_bits,
  settle,
  release_bits_locked,
  release_bits_with,
  release_bits,
  plain,
  held_taken,
  held_done,
  held_given,
}
use Rattle.reference.specs.X552.{iosf_idle, iosf_check, kr_read_body, kr_write_body, kr_read, kr_write}
use Rattle.mixing.specs.Alone.{Whole, calm, whole, WholeAndAlone}
use Rattle.mixing.specs.Model.{Side, do_action, Chip, with_selected, with_kr, put, ctrl_word}
use Rattle.mixing.specs.System.{Caller, port_of, reads, writes}
use Rattle.mixing.proofs.Kr.{bits_only}

-- one after the other
whole_then : {A B : Type 0} (f : Family) (p : Side) (will : ℕ → ℕ) (c : Chip) (t : Talk A) (k : A → Talk B)
    → whole f p will c (and_then t k) ≡ whole f p (whole f p will c t).left (whole f p will c t).chip (k (whole f p will c t).answer)
unfolding whole
whole_then f p will c (end a) k = refl
whole_then f p will c (ask a g) k =
    let d = do_action f p (calm (will 0)) c a in
    whole_then f p (λ i. will (suc i)) d.chip (g d.reply) k

ended : {A : Type 0} (f : Family) (p : Side) (will : ℕ → ℕ) (c : Chip) (x : A) → whole f p will c (end x) ≡ record { answer = x; chip = c; left = will }
unfolding whole
ended f p will c x = refl

-- ---- CTRL is never busy, its response 0

apart : (k a m b : ℕ) → b < 2 ^ k → bit_and m b ≡ 0 → bit_and (bit_and a m) b ≡ 0
apart zero a m b h e = ap (bit_and (bit_and a m)) (let z : b ≡ 0 = omega arith in z) ∙ and_zero_r (bit_and a m)
apart (suc k) a m b h e =
    let high : bit_and (bit_and a m / 2) (b / 2) ≡ 0 =
    ap (λ x. bit_and x (b / 2)) (and_shr a m 1)
    ∙ apart k (a / 2) (m / 2) (b / 2) (omega (arith, pow-suc 2 k)) (omega (arith, and_step m b)) in
    let low : min (bit_and a m % 2) (b % 2) ≡ 0 = omega (arith, and_step a m, and_step m b) in
    and_step (bit_and a m) b ∙ ap₂ (λ x y. x * 2 + y) high low

ctrl_clear : (a b : ℕ) → b < 2 ^ 32 → bit_and 0x7ff3ffff b ≡ 0 → is_clear (ctrl_word a false) b ≡ true
ctrl_clear a b h e = eq-eqb _ 0 (ap (λ x. bit_and x b) (or_zero_r (without a 0x800c0000)) ∙ apart 32 a 0x7ff3ffff b h e)

-- ---- the body

module _ (f : Family) (p : Side) where
  idle_on : (will : ℕ → ℕ) (c : Chip) (again : Call ℕ) (b : Bool) → b ≡ true
      → whole f p will c (pick b (end (Ok (ctrl_word c.selected false))) again) ≡ record { answer = Ok (ctrl_word c.selected false); chip = c; left = will }
  unfolding whole
  idle_on will c again true e = refl
  idle_on will c again false e = absurd (true≢false (sym e))

idles : (f : Family) (p : Side) (will : ℕ → ℕ) (c : Chip) (pause : ℕ)
    → whole f p will c (iosf_idle pause) ≡ record { answer = Ok (ctrl_word c.selected false); chip = c; left = λ i. will (suc i) }
unfolding whole iosf_idle times
idles X552 p will c pause = idle_on X552 p (λ i. will (suc i)) c _ _ (ctrl_clear c.selected 0x80000000 (lit< tt) refl)
idles X553 p will c pause = idle_on X553 p (λ i. will (suc i)) c _ _ (ctrl_clear c.selected 0x80000000 (lit< tt) refl)

module _ {A : Type 0} (p : Side) (will : ℕ → ℕ) (c : Chip) (k : Reply → Talk A) where
  write_ctrl : (f : Family) (a : ℕ) → whole f p will c (ask (action.Write 0x11144 a) k) ≡ whole f p (λ i. will (suc i)) (with_selected a c) (k (Ok 0))
  unfolding whole
  write_ctrl X552 a = refl
  write_ctrl X553 a = refl

  write_data : (f : Family) (w : ℕ) → whole f p will c (ask (action.Write 0x11148 w) k)
      ≡ whole f p (λ i. will (suc i)) (with_kr (put c.selected w c.kr) c) (k (Ok 0))
  unfolding whole
  write_data X552 w = refl
  write_data X553 w = refl

  read_data : (f : Family) → whole f p will c (ask (action.Read 0x11148) k) ≡ whole f p (λ i. will (suc i)) c (k (Ok (c.kr c.selected)))
  unfolding whole
  read_data X552 = refl
  read_data X553 = refl

module _ (f : Family) (p : Side) (pause a : ℕ) where
  idle_then : {A : Type 0} (will : ℕ → ℕ) (c : Chip) (k : ℕ → Call A)
      → whole f p will c (and_then (iosf_idle pause) (or_stop k)) ≡ whole f p (λ i. will (suc i)) c (k (ctrl_word c.selected false))
  idle_then will c k =
      whole_then f p will c (iosf_idle pause) (or_stop k) ∙ ap (λ r. whole f p r.left r.chip (or_stop k r.answer)) (idles f p will c pause)

  checked : {A : Type 0} (will : ℕ → ℕ) (c : Chip) (after : Call A) → whole f p will c (iosf_check a (ctrl_word a false) after) ≡ whole f p will c after
  checked will c after = ap (λ b. whole f p will c (pick b after (fail (Sideband a (ctrl_word a false))))) (ctrl_clear a 0xc0000 (lit< tt) refl)

  read_alone : (will : ℕ → ℕ) (c : Chip)
      → whole f p will c (kr_read_body pause a) ≡ record { answer = Ok (c.kr a); chip = with_selected a c; left = λ i. will (suc (suc (suc (suc i)))) }
  read_alone will c =
      idle_then will c (λ _. write 0x11144 a >> (iosf_idle pause >>= last))
      ∙ write_ctrl p (λ i. will (suc i)) c (λ r. or_stop (λ _. iosf_idle pause >>= last) (talk.done r)) f a
      ∙ idle_then (λ i. will (suc (suc i))) (with_selected a c) last
      ∙ checked (λ i. will (suc (suc (suc i)))) (with_selected a c) (read_raw 0x11148)
      ∙ read_data p (λ i. will (suc (suc (suc i)))) (with_selected a c) (λ r. end (raw r)) f
      ∙ ended f p (λ i. will (suc (suc (suc (suc i))))) (with_selected a c) (Ok (c.kr a))
    where
      last : ℕ → Call ℕ
      last ctrl = iosf_check a ctrl (read_raw 0x11148)

  write_alone : (w : ℕ) (will : ℕ → ℕ) (c : Chip) → whole f p will c (kr_write_body pause a w)
      ≡ record { answer = Ok tt; chip = with_kr (put a w c.kr) (with_selected a c); left = λ i. will (suc (suc (suc (suc i)))) }
  write_alone w will c =
      idle_then will c (λ _. write 0x11144 a >> (write 0x11148 w >> (iosf_idle pause >>= last)))
      ∙ write_ctrl p (λ i. will (suc i)) c (λ r. or_stop (λ _. write 0x11148 w >> (iosf_idle pause >>= last)) (talk.done r)) f a
      ∙ write_data p (λ i. will (suc (suc i))) (with_selected a c) (λ r. or_stop (λ _. iosf_idle pause >>= last) (talk.done r)) f w
      ∙ idle_then (λ i. will (suc (suc (suc i)))) (with_kr (put a w c.kr) (with_selected a c)) last
      ∙ checked (λ i. will (suc (suc (suc (suc i))))) (with_kr (put a w c.kr) (with_selected a c)) (return tt)
      ∙ ended f p (λ i. will (suc (suc (suc (suc i))))) (with_kr (put a w c.kr) (with_selected a c)) (Ok tt)
    where
      last : ℕ → Call (Unit {0})
      last ctrl = iosf_check a ctrl (return tt)

-- ---- the locks

-- how acquire_bits and release_bits leave the chip
record After (w : Whole (Res (Unit {0}))) (v : ℕ) (t : ℕ → ℕ) : Type 0 where
  pub answer : w.answer ≡ Ok tt
  pub swsm : w.chip.swsm.value ≡ 0
  pub sync : w.chip.sync.value ≡ v
  pub kr : w.chip.kr ≡ t

-- no mux with this mask
no_mux : (port : Port) → mux port 6 ≡ false
unfolding mux
no_mux port = go port.family
  where
    go : (f : Family) → mux_at f port.lan 6 ≡ false
    go X552 = and-false (eqb port.lan 1)
    go X553 = refl

-- a chip with these words
abbrev words : ℕ → ℕ → Chip → Chip
words v w c =
    record {
      swsm = record { value = v; owner = c.swsm.owner };
      sync = record { value = w; owner = c.sync.owner };
      selected = c.selected;
      kr = c.kr;
    }

module _ (p : Side) (will : ℕ → ℕ) (c : Chip) where
  takes : (f : Family) → After (whole f p will (words 0 0 c) (acquire_bits_times (regs f) (bits 6) false 1000 0)) 6 c.kr
  unfolding whole times bits software firmware flash bit
  takes X552 = record { answer = refl; swsm = refl; sync = refl; kr = refl }
  takes X553 = record { answer = refl; swsm = refl; sync = refl; kr = refl }

  gives : (f : Family) → After (whole f p will (words 0 6 c) (release_bits_locked (regs f) (bits 6).sw (settle 6))) 0 c.kr
  unfolding whole times bits software firmware flash bit
  gives X552 = record { answer = refl; swsm = refl; sync = refl; kr = refl }
  gives X553 = record { answer = refl; swsm = refl; sync = refl; kr = refl }

module _ (f : Family) (p : Side) (will : ℕ → ℕ) (who : Caller) (c : Chip) where
  abbrev port : Port
  port = port_of f who

  acquires : c.swsm.value ≡ 0 → c.sync.value ≡ 0 → After (whole f p will c (acquire_bits port 6)) 6 c.kr
  unfolding acquire_bits
  acquires e d =
      subst (λ b. After (whole f p will c (acquire_bits_times (regs f) (bits 6) b 1000 0)) 6 c.kr) (sym (no_mux port))
      (subst (λ v. After (whole f p will (words v c.sync.value c) (acquire_bits_times (regs f) (bits 6) false 1000 0)) 6 c.kr) (sym e)
      (subst (λ v. After (whole f p will (words 0 v c) (acquire_bits_times (regs f) (bits 6) false 1000 0)) 6 c.kr) (sym d) (takes p will c f)))

  releases : c.swsm.value ≡ 0 → c.sync.value ≡ 6 → After (whole f p will c (release_bits port 6)) 0 c.kr
  unfolding release_bits
  releases e d =
      subst (λ b. After (whole f p will c (release_bits_with (regs f) (bits 6).sw (settle 6) b)) 0 c.kr) (sym (no_mux port))
      (subst (λ v. After (whole f p will (words v c.sync.value c) (release_bits_locked (regs f) (bits 6).sw (settle 6))) 0 c.kr) (sym e)
      (subst (λ v. After (whole f p will (words 0 v c) (release_bits_locked (regs f) (bits 6).sw (settle 6))) 0 c.kr) (sym d) (gives p will c f)))

-- ---- the access, of a body that gives v and does g to the chip

-- `at`: the chip where the body begins, with the KR registers t
record Outcome {A : Type 0} (w : Whole (Res A)) (v : Chip → A) (g : Chip → Chip) (t : ℕ → ℕ) : Type 0 where
  pub at : Chip
  pub same : at.kr ≡ t
  pub answer : w.answer ≡ Ok (v at)
  pub kr : w.chip.kr ≡ (g at).kr

locked_alone : (f : Family) (p : Side) (will : ℕ → ℕ) (who : Caller) (c : Chip) → c.swsm.value ≡ 0 → c.sync.value ≡ 0
    → {A : Type 0} (body : Call A) (v : Chip → A) (g : Chip → Chip) (l : (ℕ → ℕ) → ℕ → ℕ)
    → ((w : ℕ → ℕ) (c : Chip) → whole f p w c body ≡ record { answer = Ok (v c); chip = g c; left = l w })
    → ((c : Chip) → (g c).swsm.value ≡ c.swsm.value) → ((c : Chip) → (g c).sync.value ≡ c.sync.value)
    → Outcome (whole f p will c (locked plain (port_of f who) 6 body)) v g c.kr
locked_alone f p will who c e d body v g l does swsm_same sync_same =
    let port = port_of f who in
    let take = whole f p will c (acquire_bits port 6) in
    let taken = acquires f p will who c e d in
    let give = whole f p (l take.left) (g take.chip) (release_bits port 6) in
    let given = releases f p (l take.left) who (g take.chip) (swsm_same take.chip ∙ taken.swsm) (sync_same take.chip ∙ taken.sync) in
    let goes : whole f p will c (locked plain port 6 body) ≡ record { answer = Ok (v take.chip); chip = give.chip; left = give.left } =
    ap (whole f p will c) (sym (bits_only port body))
    ∙ whole_then f p will c (acquire_bits port 6) (held_taken plain (release_bits port 6) body)
    ∙ ap (λ r. whole f p take.left take.chip (held_taken plain (release_bits port 6) body r)) taken.answer
    ∙ whole_then f p take.left take.chip body (held_done plain (release_bits port 6))
    ∙ ap (λ r. whole f p r.left r.chip (held_done plain (release_bits port 6) r.answer)) (does take.left take.chip)
    ∙ whole_then f p (l take.left) (g take.chip) (release_bits port 6) (held_given plain (Ok (v take.chip)))
    ∙ ap (λ r. whole f p give.left give.chip (held_given plain (Ok (v take.chip)) r)) given.answer
    ∙ ended f p give.left give.chip (Ok (v take.chip)) in
    record { at = take.chip; same = taken.kr; answer = ap (λ r. r.answer) goes; kr = ap (λ r. r.chip.kr) goes ∙ given.kr }

pub whole_and_alone : WholeAndAlone
unfolding kr_read kr_write
whole_and_alone f p (reads who a) will c e d =
    let o = locked_alone f p will who c e d (kr_read_body who.pause a) (λ c. c.kr a) (with_selected a) (λ w i. w (suc (suc (suc (suc i)))))
    (read_alone f p who.pause a) (λ c. refl) (λ c. refl) in
    record { registers = λ b. ap (λ t. t b) (o.kr ∙ o.same); answer = o.answer ∙ ap (λ t. Ok (t a)) o.same }
whole_and_alone f p (writes who a w) will c e d =
    let o = locked_alone f p will who c e d (kr_write_body who.pause a w) (λ _. tt) (λ c. with_kr (put a w c.kr) (with_selected a c))
    (λ w i. w (suc (suc (suc (suc i))))) (write_alone f p who.pause a w) (λ c. refl) (λ c. refl) in
    record { registers = λ b. ap (λ t. t b) (o.kr ∙ ap (put a w) o.same); answer = o.answer }
