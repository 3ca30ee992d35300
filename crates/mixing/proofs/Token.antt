-- sync.rs's `acquire` and `release`, with TOKEN, are a bracket as well
use Rattle.std.specs.Prelude.{Err, Ok}
use Rattle.hardware.specs.Talk.{Talk, Call, Res, end, and_then, or_stop, ◌>>=◌, ◌>>◌, attempt, pick, is_clear, fail}
use Prim.Native.Nat.{ℕ}
use mathlib.Core.Path.{◌≡◌, refl, sym, ap, ◌∙◌, subst}
use mathlib.Core.Bool.{Bool, true, false, not, ◌&&◌, true≢false}
use lib.Dec.{eqb}
use Rattle.hardware.specs.Bits.{bit}
use Rattle.hardware.specs.declared.Error.{Error}
use Rattle.hardware.specs.declared.Error.TheVariants.{Firmware}
use Rattle.hardware.specs.declared.Family.{Family}
use Rattle.hardware.specs.declared.Port.{Port}
use Rattle.hardware.proofs.Laws.{by_turns, then_assoc}
use Rattle.words.specs.Semaphore.{software}
use Rattle.reference.specs.Acquire.{
  hw_of,
  acquire_lost,
  acquire_given,
  acquire_got,
  acquire_ask,
  acquire_turn,
  acquire,
  release_rest,
  forget,
  release,
}
use Rattle.reference.specs.Hostif.{token}
use Rattle.reference.specs.Sync.{acquire_bits, release_bits}
use Rattle.mixing.specs.Heeded.{Fails, fails_end, Heeds, heeds_end, heeds_ask}
use Rattle.mixing.specs.Addressed.{Addressed}
use Rattle.mixing.specs.Events.{is_ok}
use Rattle.mixing.specs.Only.{only_end, only_ask}
use Rattle.mixing.specs.System.{Made, done, other}
use Rattle.mixing.proofs.Addressed.{plain_addressed}
use Rattle.mixing.proofs.Heed.{fails_after, heeds_then, heeds_bind}
use Rattle.mixing.proofs.Hold.{Now, Least, least, plus, minus}
use Rattle.mixing.proofs.Hostif.{s_token, plain_token}
use Rattle.mixing.proofs.Only.{only_bind, only_attempt, only_pick}
use Rattle.mixing.proofs.Plain.{Plain, plain_acquire, plain_release}
use Rattle.mixing.proofs.Sound.{Bracket, Took, Gave, EndsIf, bits_bracket, gives_back, gives_back_least, here, made_then}
use Rattle.mixing.proofs.Wp.{View, Wp, wp_end, wp_ask, wp_then, wp_attempt, wp_mono, wp_pick}

-- ---- laws of `?` and `attempt`

made_bind : {A B : Type 0} {f : Family} {t : Call A} {k : A → Call B} → Made f t → ((a : A) → Made f (k a)) → Made f (t >>= k)
made_bind {f = f} {k = k} m h = made_then m go
  where
    go : (r : Res _) → Made f (or_stop k r)
    go (Ok a) = h a
    go (Err e) = done (Err e)

made_pick : {A : Type 0} {f : Family} {t u : Talk A} (b : Bool) → Made f t → Made f u → Made f (pick b t u)
made_pick true p q = p
made_pick false p q = q

heeds_pick : {A : Type 0} {f : Family} {well : A → Bool} {t u : Talk A} (b : Bool) → Heeds f well t → Heeds f well u → Heeds f well (pick b t u)
heeds_pick true p q = p
heeds_pick false p q = q

fails_pick : {A : Type 0} {well : A → Bool} {t u : Talk A} (b : Bool) → Fails well t → Fails well u → Fails well (pick b t u)
fails_pick true p q = p
fails_pick false p q = q

module _ {A B : Type 0} (t : Call A) (k : Res A → Call B) where
  attempt_then : and_then t k ≡ (attempt t >>= k)
  attempt_then = sym (then_assoc t (λ r. end (Ok r)) (or_stop k))

  made_attempt : {f : Family} → Made f t → ((r : Res A) → Made f (k r)) → Made f (attempt t >>= k)
  made_attempt {f} m h = subst (Made f) attempt_then (made_then m h)

  heeds_attempt : {f : Family} → Heeds f is_ok t → ((r : Res A) → Heeds f is_ok (k r)) → ((e : Error) → Fails is_ok (k (Err e))) → Heeds f is_ok (attempt t >>= k)
  heeds_attempt {f} p h z = subst (Heeds f is_ok) attempt_then (heeds_then p h bad)
    where
      bad : (r : Res A) → is_ok r ≡ false → Fails is_ok (k r)
      bad (Ok a) e = absurd (true≢false e)
      bad (Err d) e = z d

-- an error behind anything
fails_with : {A : Type 0} (t : Call A) (e : Error) → Fails {A = Res (Unit {0})} is_ok (t >> end (Err e))
fails_with {A} t e = fails_after t go
  where
    go : (r : Res A) → Fails {A = Res (Unit {0})} is_ok (or_stop (λ _. end (Err e)) r)
    go (Ok a) = fails_end refl
    go (Err d) = fails_end refl

-- ---- `acquire`

module _ (port : Port) (hw : ℕ) (some_bits : eqb hw 0 ≡ false) where
  abbrev f : Family
  f = port.family

  abbrev s : ℕ
  s = software hw

  bits : Bracket port.family (software hw) (acquire_bits port hw) (release_bits port hw)
  bits = bits_bracket port hw

  module _ (again : Call (Unit {0})) where
    module _ (m : ℕ → Bool) (go : (W : View) → Now m W → Wp f (Took m s) W again) (apart : (i : ℕ) → bit i s ≡ true → m i ≡ false) where
      lost : (W : View) (r : Res (Unit {0})) → EndsIf (is_ok r) m W → Wp f (Took m s) W (or_stop (λ _. acquire_lost (Ok false) again) r)
      unfolding acquire_lost
      lost W (Ok _) now = wp_ask tt (λ _ _. go W now)
      lost W (Err e) l = wp_end l

      lost_error : (e : Error) (W : View) (r : Res (Unit {0})) → Least m W → Wp f (Took m s) W (or_stop (λ _. acquire_lost (Err e) again) r)
      unfolding acquire_lost
      lost_error e W (Ok _) l = wp_end l
      lost_error e W (Err d) l = wp_end l

      got : (W : View) (granted : Res Bool) → EndsIf (is_ok granted) (plus m s) W → Wp f (Took m s) W (acquire_got port hw again granted)
      unfolding acquire_got acquire_given
      got W (Ok true) now = wp_end {a = Ok tt} (now, apart)
      got W (Ok false) now =
          wp_pick (eqb hw 0) (λ e. absurd (true≢false (sym e ∙ some_bits))) (λ _. wp_then (wp_mono lost (gives_back bits apart W now)))
      got W (Err e) l =
          wp_pick (eqb hw 0) (λ t. absurd (true≢false (sym t ∙ some_bits))) (λ _. wp_then (wp_mono (lost_error e) (gives_back_least bits apart W l)))

      asked : (W : View) → Now (plus m s) W → Wp f (Took m s) W (acquire_ask port hw again)
      unfolding acquire_ask
      asked W now = wp_attempt (wp_mono got ((s_token port true).balanced (plus m s) W now))

    turn : (m : ℕ → Bool) → ((W : View) → Now m W → Wp f (Took m s) W again) → (W : View) → Now m W → Wp f (Took m s) W (acquire_turn port hw again)
    turn m go W now =
        wp_pick (eqb hw 0) (λ e. absurd (true≢false (sym e ∙ some_bits))) (λ _. wp_then (wp_mono taken (bits.takes m W now)))
      where
        taken : (W₁ : View) (r : Res (Unit {0})) → Took m s W₁ r → Wp f (Took m s) W₁ (or_stop (λ _. acquire_ask port hw again) r)
        taken W₁ (Ok _) t = asked m go t.1 W₁ t.0
        taken W₁ (Err e) l = wp_end l

    module _ (g : Made f again) where
      made_lost : (granted : Res Bool) → Made f (acquire_lost granted again)
      unfolding acquire_lost
      made_lost (Ok b) = other tt (λ _. g)
      made_lost (Err e) = done _

      made_given : (granted : Res Bool) → Made f (acquire_given port hw again granted)
      unfolding acquire_given
      made_given granted = made_pick (eqb hw 0) (made_lost granted) (made_bind bits.give_made (λ _. made_lost granted))

      made_got : (granted : Res Bool) → Made f (acquire_got port hw again granted)
      unfolding acquire_got
      made_got (Ok true) = done _
      made_got (Ok false) = made_given (Ok false)
      made_got (Err e) = made_given (Err e)

      made_asked : Made f (acquire_ask port hw again)
      unfolding acquire_ask
      made_asked = made_attempt (token port true) (acquire_got port hw again) (s_token port true).made made_got

      made_turn : Made f (acquire_turn port hw again)
      made_turn = made_pick (eqb hw 0) made_asked (made_bind bits.take_made (λ _. made_asked))

    module _ (g : Heeds f is_ok again) where
      heeds_lost : (granted : Res Bool) → Heeds f is_ok (acquire_lost granted again)
      unfolding acquire_lost
      heeds_lost (Ok b) = heeds_ask tt (λ _. g)
      heeds_lost (Err e) = heeds_end

      heeds_given : (granted : Res Bool) → Heeds f is_ok (acquire_given port hw again granted)
      unfolding acquire_given
      heeds_given granted = heeds_pick (eqb hw 0) (heeds_lost granted) (heeds_bind bits.give_heeds (λ _. heeds_lost granted))

      heeds_got : (granted : Res Bool) → Heeds f is_ok (acquire_got port hw again granted)
      unfolding acquire_got
      heeds_got (Ok true) = heeds_end
      heeds_got (Ok false) = heeds_given (Ok false)
      heeds_got (Err e) = heeds_given (Err e)

      fails_got : (e : Error) → Fails is_ok (acquire_got port hw again (Err e))
      unfolding acquire_got acquire_given acquire_lost
      fails_got e = fails_pick (eqb hw 0) (fails_end refl) (fails_with (release_bits port hw) e)

      heeds_asked : Heeds f is_ok (acquire_ask port hw again)
      unfolding acquire_ask
      heeds_asked = heeds_attempt (token port true) (acquire_got port hw again) (s_token port true).heeds heeds_got fails_got

      heeds_turn : Heeds f is_ok (acquire_turn port hw again)
      heeds_turn = heeds_pick (eqb hw 0) heeds_asked (heeds_bind bits.take_heeds (λ _. heeds_asked))

  -- ---- `release`

  module _ (m : ℕ → Bool) (own : (i : ℕ) → bit i s ≡ true → m i ≡ true) where
    rest : (W : View) → Now m W → Wp f (Gave m s) W (release_rest port hw (Ok tt))
    unfolding release_rest
    rest W now = wp_pick (eqb hw 0) (λ e. absurd (true≢false (sym e ∙ some_bits))) (λ _. wp_then (wp_mono last (bits.gives m W now own)))
      where
        last : (W₁ : View) (r : Res (Unit {0})) → Gave m s W₁ r → Wp f (Gave m s) W₁ (or_stop (λ _. end (Ok tt)) r)
        last W₁ (Ok _) g = wp_end g
        last W₁ (Err e) g = wp_end g

    rest_error : (e : Error) (W : View) → Least m W → Wp f (Gave m s) W (release_rest port hw (Err e))
    unfolding release_rest
    rest_error e W l =
        wp_pick (eqb hw 0) (λ t. absurd (true≢false (sym t ∙ some_bits)))
        (λ _. wp_then (wp_mono last (bits.gives W.mine W (here l.clean) (λ i p. l.keeps i (own i p)))))
      where
        kept : (a b c : Bool) → (a ≡ true → b ≡ true) → (a && not c) ≡ true → (b && not c) ≡ true
        kept true b c h e = ap (λ t. t && not c) (h refl) ∙ e
        kept false b c h e = absurd (true≢false (sym e))

        keep : (i : ℕ) → minus m s i ≡ true → minus W.mine s i ≡ true
        keep i = kept (m i) (W.mine i) (bit i s) (l.keeps i)

        last : (W₁ : View) (r : Res (Unit {0})) → Gave W.mine s W₁ r → Wp f (Gave m s) W₁ (or_stop (λ _. end (Err e)) r)
        last W₁ (Ok _) g = wp_end (least keep g)
        last W₁ (Err d) g = wp_end {a = Err d} (record { clean = g.clean; keeps = λ i p. g.keeps i (keep i p) })

    tokened : (W : View) (given : Res Bool) → EndsIf (is_ok given) m W → Wp f (Gave m s) W (release_rest port hw (forget given))
    tokened W (Ok b) now = rest W now
    tokened W (Err e) l = rest_error e W l

  made_rest : (r : Res (Unit {0})) → Made f (release_rest port hw r)
  unfolding release_rest
  made_rest r = made_pick (eqb hw 0) (done _) (made_bind bits.give_made (λ _. done _))

  heeds_rest : (r : Res (Unit {0})) → Heeds f is_ok (release_rest port hw r)
  unfolding release_rest
  heeds_rest r = heeds_pick (eqb hw 0) heeds_end (heeds_bind bits.give_heeds (λ _. heeds_end))

  fails_rest : (e : Error) → Fails is_ok (release_rest port hw (Err e))
  unfolding release_rest
  fails_rest e = fails_pick (eqb hw 0) (fails_end refl) (fails_with (release_bits port hw) e)

-- ---- of any mask, they touch no KR access register

module _ (port : Port) (hw : ℕ) where
  module _ {again : Call (Unit {0})} (g : Plain port.family again) where
    plain_lost : (granted : Res Bool) → Plain port.family (acquire_lost granted again)
    unfolding acquire_lost
    plain_lost (Ok b) = only_ask tt (λ _. g)
    plain_lost (Err e) = only_end

    plain_given : (granted : Res Bool) → Plain port.family (acquire_given port hw again granted)
    unfolding acquire_given
    plain_given granted =
        only_pick (eqb hw 0) (plain_lost granted)
        (only_bind (plain_release port hw) (λ _. plain_lost granted))

    plain_got : (granted : Res Bool) → Plain port.family (acquire_got port hw again granted)
    unfolding acquire_got
    plain_got (Ok true) = only_end
    plain_got (Ok false) = plain_given (Ok false)
    plain_got (Err e) = plain_given (Err e)

    plain_ask : Plain port.family (acquire_ask port hw again)
    unfolding acquire_ask
    plain_ask = only_attempt (plain_token port true) plain_got

    plain_turn : Plain port.family (acquire_turn port hw again)
    plain_turn =
        only_pick (eqb hw 0) plain_ask (only_bind (plain_acquire port hw) (λ _. plain_ask))

  plain_rest : (r : Res (Unit {0})) → Plain port.family (release_rest port hw r)
  unfolding release_rest
  plain_rest r = only_pick (eqb hw 0) only_end (only_bind (plain_release port hw) (λ _. only_end))

pub plain_take : (port : Port) (mask : ℕ) → Plain port.family (acquire port mask)
unfolding acquire
plain_take port mask =
    only_pick (is_clear mask 0x40000000) (plain_acquire port (hw_of mask))
    (by_turns (Plain port.family) (acquire_turn port (hw_of mask)) (fail (Firmware 0x0a 0x80)) (λ again. plain_turn port (hw_of mask)) only_end 1000)

pub plain_give : (port : Port) (mask : ℕ) → Plain port.family (release port mask)
unfolding release
plain_give port mask =
    only_pick (is_clear mask 0x40000000) (plain_rest port (hw_of mask) (Ok tt))
    (only_attempt (plain_token port false) (λ given. plain_rest port (hw_of mask) (forget given)))

-- so they write no address to CTRL
pub acquire_addressed : (port : Port) (mask : ℕ) → Addressed (acquire port mask)
acquire_addressed port mask = plain_addressed port.family (plain_take port mask)

pub release_addressed : (port : Port) (mask : ℕ) → Addressed (release port mask)
release_addressed port mask = plain_addressed port.family (plain_give port mask)

pub token_bracket : (port : Port) (mask : ℕ) → eqb (hw_of mask) 0 ≡ false → Bracket port.family (software (hw_of mask)) (acquire port mask) (release port mask)
unfolding acquire release
token_bracket port mask h =
    let f = port.family in
    let hw = hw_of mask in
    let bits = bits_bracket port hw in
    record {
      takes = λ m W now. wp_pick (is_clear mask 0x40000000) (λ _. bits.takes m W now)
          (λ _. by_turns (λ t. (W : View) → Now m W → Wp f (Took m (software hw)) W t) (acquire_turn port hw) (fail (Firmware 0x0a 0x80))
          (λ again. turn port hw h again m) (λ W now. wp_end (least (λ i p. p) now)) 1000 W now);
      gives = λ m W now own. wp_pick (is_clear mask 0x40000000) (λ _. rest port hw h m own W now)
          (λ _. wp_attempt (wp_mono (tokened port hw h m own) ((s_token port false).balanced m W now)));
      take_made = made_pick (is_clear mask 0x40000000) bits.take_made
          (by_turns (Made f) (acquire_turn port hw) (fail (Firmware 0x0a 0x80)) (made_turn port hw h) (done _) 1000);
      give_made = made_pick (is_clear mask 0x40000000) (made_rest port hw h (Ok tt))
          (made_attempt (token port false) (λ given. release_rest port hw (forget given)) (s_token port false).made (λ given. made_rest port hw h (forget given)));
      take_heeds = heeds_pick (is_clear mask 0x40000000) bits.take_heeds
          (by_turns (Heeds f is_ok) (acquire_turn port hw) (fail (Firmware 0x0a 0x80)) (heeds_turn port hw h) heeds_end 1000);
      give_heeds = heeds_pick (is_clear mask 0x40000000) (heeds_rest port hw h (Ok tt))
          (heeds_attempt (token port false) (λ given. release_rest port hw (forget given)) (s_token port false).heeds (λ given. heeds_rest port hw h (forget given))
          (fails_rest port hw h));
      take_addressed = acquire_addressed port mask;
      give_addressed = release_addressed port mask;
    }
