-- What is asked of an operation, and how operations that have it are put together
use Rattle.std.specs.Prelude.{Err, Ok}
use Rattle.hardware.specs.Talk.{Talk, Call, Res, end, ask, and_then, pick, or_stop, ◌>>=◌}
use Prim.Native.Nat.{ℕ}
use mathlib.Core.Path.{◌≡◌, refl, sym, ap, ◌∙◌, subst}
use mathlib.Core.Bool.{Bool, true, false, not, ◌&&◌, ◌||◌, true≢false, or-true}
use mathlib.Core.List.{List}
use Rattle.hardware.specs.Bits.{bit}
use Rattle.hardware.specs.Block as blk
use Rattle.hardware.specs.declared.Action.TheVariants as action
use Rattle.hardware.specs.declared.Error.{Error}
use Rattle.hardware.specs.declared.Family.{Family}
use Rattle.hardware.specs.declared.Port.{Port}
use Rattle.hardware.proofs.Laws.{then_assoc}
use Rattle.words.specs.Semaphore.{software, bits}
use Rattle.reference.specs.Sync.{mux, acquire_bits, settle, release_bits, Ending, plain, with_block, with_values, held, held_done, held_taken}
use Rattle.mixing.specs.Addressed.{Addressed}
use Rattle.mixing.specs.Only.{only_end, only_ask}
use Rattle.mixing.specs.Heeded as heeded
use Rattle.mixing.specs.Heeded.{NotLock, Fails, fails_end, Heeds, heeds_end, heeds_ask}
use Rattle.mixing.specs.Events.{is_ok}
use Rattle.mixing.specs.System.{NotIosf, access_talk, Made, done, other, access}
use Rattle.mixing.proofs.Addressed.{plain_addressed, quiet_addressed}
use Rattle.mixing.proofs.Heed.{fails_after, heeds_then, heeds_lock, heeds_only}
use Rattle.mixing.proofs.Hold.{Clean, Now, Least, least, plus, minus, software_bits, quiet_mux, acquires, releases}
use Rattle.mixing.proofs.Lock.{or_stop_lem, and_left}
use Rattle.mixing.proofs.Only.{Quiet, only_then, quiet_only}
use Rattle.mixing.proofs.Plain.{made_plain, plain_acquire, plain_release}
use Rattle.mixing.proofs.Wp.{View, Wp, wp_end, wp_ask, wp_then, wp_mono, wp_pick, quiet_wp}

-- ---- taken apart

pub made_then : {A B : Type 0} {f : Family} {t : Talk A} {k : A → Talk B} → Made f t → ((a : A) → Made f (k a)) → Made f (and_then t k)
made_then (done a) h = h a
made_then (other o m) h = other o (λ r. made_then (m r) h)
made_then {k = k} (access x c e m) h =
    access x (λ r. and_then (c r) k) (ap (λ t. and_then t k) e ∙ then_assoc (access_talk _ x) c k) (λ r. made_then (m r) h)

-- ---- how it ends that began with m: well, with m; else with m at least

abbrev pub EndsIf : Bool → (ℕ → Bool) → View → Type 0
EndsIf true m W = Now m W
EndsIf false m W = Least m W

abbrev pub Ends : {A : Type 0} → (A → Bool) → (ℕ → Bool) → View → A → Type 0
Ends well m W a = EndsIf (well a) m W

ends_here : (b : Bool) {m : ℕ → Bool} {W : View} → Now m W → EndsIf b m W
ends_here true now = now
ends_here false now = least (λ i p. p) now

ends_bad : {b : Bool} {m : ℕ → Bool} {W : View} → b ≡ false → Least m W → EndsIf b m W
ends_bad {m = m} {W} e l = subst (λ b. EndsIf b m W) (sym e) l

-- `well`: which answers are no errors. It can be taken apart, it keeps the rules, where it ends well it gives back what it
-- took, it heeds the errors of acquire_bits and release_bits, and what it writes to CTRL is an address in range
pub record Sound {A : Type 0} (f : Family) (well : A → Bool) (t : Talk A) : Type 0 where
  pub made : Made f t
  pub balanced : (m : ℕ → Bool) (W : View) → Now m W → Wp f (Ends well m) W t
  pub heeds : Heeds f well t
  pub addressed : Addressed t

pub quietly : {A : Type 0} {f : Family} {well : A → Bool} {t : Talk A} → Quiet f t → Sound f well t
quietly {f = f} {well = well} q =
    record {
      made = made_plain (quiet_only NotIosf tt f q);
      balanced = λ m W now. quiet_wp q (λ a. ends_here (well a) now);
      heeds = heeds_only (quiet_only NotLock tt f q);
      addressed = quiet_addressed f q;
    }

pub ends : {A : Type 0} {f : Family} {well : A → Bool} {a : A} → Sound f well (end a)
ends = quietly only_end

pub picks : {A : Type 0} {f : Family} {well : A → Bool} {t u : Talk A} (b : Bool) → Sound f well t → Sound f well u → Sound f well (pick b t u)
picks true p q = p
picks false p q = q

pub waits : {A : Type 0} {f : Family} {well : A → Bool} {n : ℕ} {t : Talk A} → Sound f well t → Sound f well (ask (action.Wait n) (λ _. t))
waits s =
    record {
      made = other tt (λ _. s.made);
      balanced = λ m W now. wp_ask tt (λ _ _. s.balanced m W now);
      heeds = heeds_ask tt (λ _. s.heeds);
      addressed = only_ask tt (λ _. s.addressed);
    }

-- it has ended with an error
pub record Stops {A : Type 0} (well : A → Bool) (t : Talk A) : Type 0 where
  pub answer : A
  pub is : t ≡ end answer
  pub bad : well answer ≡ false

-- one after the other, where the first one's error ends it
pub follows : {A B : Type 0} {f : Family} {well : A → Bool} {well' : B → Bool} {t : Talk A} {k : A → Talk B} → Sound f well t
    → ((a : A) → well a ≡ true → Sound f well' (k a)) → ((a : A) → well a ≡ false → Stops well' (k a)) → Sound f well' (and_then t k)
follows {A} {B} {f} {well} {well'} {t} {k} s h z =
    record {
      made = made_then s.made (λ a. made_on a (well a) refl);
      balanced = λ m W now. wp_then (wp_mono (λ W₁ a e. goes m W₁ a (well a) refl e) (s.balanced m W now));
      heeds = heeds_then s.heeds (λ a. heeds_on a (well a) refl) (λ a e. subst (Fails well') (sym (z a e).is) (fails_end (z a e).bad));
      addressed = only_then s.addressed (λ a. addressed_on a (well a) refl);
    }
  where
    made_on : (a : A) (b : Bool) → well a ≡ b → Made f (k a)
    made_on a true e = (h a e).made
    made_on a false e = subst (Made f) (sym (z a e).is) (done _)

    heeds_on : (a : A) (b : Bool) → well a ≡ b → Heeds f well' (k a)
    heeds_on a true e = (h a e).heeds
    heeds_on a false e = subst (Heeds f well') (sym (z a e).is) heeds_end

    addressed_on : (a : A) (b : Bool) → well a ≡ b → Addressed (k a)
    addressed_on a true e = (h a e).addressed
    addressed_on a false e = subst Addressed (sym (z a e).is) only_end

    goes : (m : ℕ → Bool) (W₁ : View) (a : A) (b : Bool) → well a ≡ b → EndsIf b m W₁ → Wp f (Ends well' m) W₁ (k a)
    goes m W₁ a true e now = (h a e).balanced m W₁ now
    goes m W₁ a false e l = subst (Wp f (Ends well' m) W₁) (sym (z a e).is) (wp_end (ends_bad (z a e).bad l))

abbrev pub well_block : {A : Type 0} → Res A × List ℕ → Bool
well_block p = is_ok p.0

-- the Rust's `?`
pub bind : {A B : Type 0} {f : Family} {t : Call A} {k : A → Call B} → Sound f is_ok t → ((a : A) → Sound f is_ok (k a)) → Sound f is_ok (t >>= k)
bind {A} {B} {f} {t} {k} s h = follows s on stop
  where
    on : (r : Res A) → is_ok r ≡ true → Sound f is_ok (or_stop k r)
    on (Ok a) e = h a
    on (Err d) e = absurd (true≢false (sym e))

    stop : (r : Res A) → is_ok r ≡ false → Stops is_ok (or_stop k r)
    stop (Ok a) e = absurd (true≢false e)
    stop (Err d) e = record { answer = Err d; is = refl; bad = refl }

-- `?` on what a function that is lent a host block gives back
pub bind_lent : {A B : Type 0} {f : Family} {t : Talk (Res A × List ℕ)} {k : List ℕ → A → Call B} → Sound f well_block t
    → ((b : List ℕ) (a : A) → Sound f is_ok (k b a)) → Sound f is_ok (and_then t (λ p. or_stop (k p.1) p.0))
bind_lent {A} {B} {f} {t} {k} s h = follows s (λ p. on p.1 p.0) (λ p. stop p.1 p.0)
  where
    on : (b : List ℕ) (r : Res A) → is_ok r ≡ true → Sound f is_ok (or_stop (k b) r)
    on b (Ok a) e = h b a
    on b (Err d) e = absurd (true≢false (sym e))

    stop : (b : List ℕ) (r : Res A) → is_ok r ≡ false → Stops is_ok (or_stop (k b) r)
    stop b (Ok a) e = absurd (true≢false e)
    stop b (Err d) e = record { answer = Err d; is = refl; bad = refl }

-- and in such a function
pub bind_block : {A B : Type 0} {f : Family} {t : Talk (Res A × List ℕ)} {k : A → List ℕ → Talk (Res B × List ℕ)} → Sound f well_block t
    → ((a : A) (b : List ℕ) → Sound f well_block (k a b)) → Sound f well_block (and_then t (λ p. blk.or_stop k p.0 p.1))
bind_block {A} {B} {f} {t} {k} s h = follows s (λ p. on p.0 p.1) (λ p. stop p.0 p.1)
  where
    on : (r : Res A) (b : List ℕ) → is_ok r ≡ true → Sound f well_block (blk.or_stop k r b)
    on (Ok a) b e = h a b
    on (Err d) b e = absurd (true≢false (sym e))

    stop : (r : Res A) (b : List ℕ) → is_ok r ≡ false → Stops well_block (blk.or_stop k r b)
    stop (Ok a) b e = absurd (true≢false e)
    stop (Err d) b e = record { answer = (Err d, b); is = refl; bad = refl }

pub keeps : {A : Type 0} {f : Family} {t : Call A} (b : List ℕ) → Sound f is_ok t → Sound f well_block (blk.keep t b)
keeps b s = follows s (λ r e. ends) (λ r e. record { answer = (r, b); is = refl; bad = e })

-- ---- a body under a lock

abbrev pub Took : (ℕ → Bool) → ℕ → View → Res (Unit {0}) → Type 0
Took m s W (Ok _) = Now (plus m s) W × ((i : ℕ) → bit i s ≡ true → m i ≡ false)
Took m s W (Err e) = Least m W

abbrev pub Gave : (ℕ → Bool) → ℕ → View → Res (Unit {0}) → Type 0
Gave m s W (Ok _) = Now (minus m s) W
Gave m s W (Err e) = Least (minus m s) W

-- `take` takes the bits s, and `give` gives them back
pub record Bracket (f : Family) (s : ℕ) (take give : Call (Unit {0})) : Type 0 where
  pub takes : (m : ℕ → Bool) (W : View) → Now m W → Wp f (Took m s) W take
  pub gives : (m : ℕ → Bool) (W : View) → Now m W → ((i : ℕ) → bit i s ≡ true → m i ≡ true) → Wp f (Gave m s) W give
  pub take_made : Made f take
  pub give_made : Made f give
  pub take_heeds : Heeds f is_ok take
  pub give_heeds : Heeds f is_ok give
  pub take_addressed : Addressed take
  pub give_addressed : Addressed give

-- what `held` makes of errors: none is lost
pub record Honest {X : Type 0} (well : X → Bool) (ending : Ending X) : Type 0 where
  pub before : (e : Error) → well (ending.before e) ≡ false
  pub after : (x : X) → well (ending.after x (Ok tt)) ≡ well x
  pub after_error : (x : X) (e : Error) → well (ending.after x (Err e)) ≡ false

pub honest_plain : {A : Type 0} → Honest {X = Res A} is_ok plain
honest_plain {A} = record { before = λ e. refl; after = good; after_error = bad }
  where
    good : (x : Res A) → is_ok (plain.after x (Ok tt)) ≡ is_ok x
    good (Ok a) = refl
    good (Err e) = refl

    bad : (x : Res A) (d : Error) → is_ok (plain.after x (Err d)) ≡ false
    bad (Ok a) d = refl
    bad (Err e) d = refl

pub honest_block : {A : Type 0} (b : List ℕ) → Honest {X = Res A × List ℕ} well_block (with_block b)
honest_block b =
    record {
      before = λ e. refl;
      after = λ p. honest_plain.after p.0;
      after_error = λ p e. honest_plain.after_error p.0 e;
    }

-- of a list: the release's error drops the values, and is the answer
pub honest_values : {A : Type 0} → Honest {X = Res A × List ℕ} well_block with_values
honest_values {A} = record { before = λ e. refl; after = good; after_error = bad }
  where
    good : (x : Res A × List ℕ) → well_block (with_values.after x (Ok tt)) ≡ well_block x
    good (Ok a, vs) = refl
    good (Err e, vs) = refl

    bad : (x : Res A × List ℕ) (d : Error) → well_block (with_values.after x (Err d)) ≡ false
    bad (Ok a, vs) d = refl
    bad (Err e, vs) d = refl

pub or_right : (a b : Bool) → b ≡ true → (a || b) ≡ true
or_right a b h = ap (λ t. a || t) h ∙ or-true a

pub cancel : (m s : Bool) → (s ≡ true → m ≡ false) → ((m || s) && not s) ≡ m
cancel true true h = sym (h refl)
cancel true false h = refl
cancel false true h = refl
cancel false false h = refl

pub kept : (m w s : Bool) → (s ≡ true → m ≡ false) → ((m || s) ≡ true → w ≡ true) → m ≡ true → (w && not s) ≡ true
kept true w true h k e = absurd (true≢false (h refl))
kept true w false h k e = rw (k refl)
kept false w s h k e = absurd (true≢false (sym e))

pub here : {W : View} → Clean W → Now W.mine W
here c = record { clean = c; mine = λ i. refl }

-- after the body, which had the bits s besides m
module _ {f : Family} {s : ℕ} {take give : Call (Unit {0})} (bracket : Bracket f s take give) {m : ℕ → Bool} (apart : (i : ℕ) → bit i s ≡ true → m i ≡ false) where
  pub gives_back : (W : View) → Now (plus m s) W → Wp f (λ W₁ r. EndsIf (is_ok r) m W₁) W give
  gives_back W now = wp_mono last (bracket.gives (plus m s) W now (λ i p. or_right (m i) (bit i s) p))
    where
      last : (W₁ : View) (r : Res (Unit {0})) → Gave (plus m s) s W₁ r → EndsIf (is_ok r) m W₁
      last W₁ (Ok _) g = record { clean = g.clean; mine = λ i. g.mine i ∙ cancel (m i) (bit i s) (apart i) }
      last W₁ (Err e) g = record { clean = g.clean; keeps = λ i p. g.keeps i (kept (m i) _ (bit i s) (apart i) (λ q. q) p) }

  pub gives_back_least : (W : View) → Least (plus m s) W → Wp f (λ W₁ r. Least m W₁) W give
  gives_back_least W l = wp_mono last (bracket.gives W.mine W (here l.clean) (λ i p. l.keeps i (or_right (m i) (bit i s) p)))
    where
      keep : (i : ℕ) → m i ≡ true → minus W.mine s i ≡ true
      keep i p = kept (m i) (W.mine i) (bit i s) (apart i) (l.keeps i) p

      last : (W₁ : View) (r : Res (Unit {0})) → Gave W.mine s W₁ r → Least m W₁
      last W₁ (Ok _) g = least keep g
      last W₁ (Err e) g = record { clean = g.clean; keeps = λ i p. g.keeps i (keep i p) }

still_bad : {X : Type 0} {well : X → Bool} {ending : Ending X} → Honest well ending → (x : X) (r : Res (Unit {0})) → well x ≡ false
    → well (ending.after x r) ≡ false
still_bad honest x (Ok _) e = honest.after x ∙ e
still_bad honest x (Err d) e = honest.after_error x d

module _ {X : Type 0} {f : Family} {s : ℕ} {take give : Call (Unit {0})} {well : X → Bool} {ending : Ending X} {body : Talk X}
    (bracket : Bracket f s take give) (honest : Honest well ending) where
  pub under_heeds : Heeds f well body → Heeds f well (held ending take give body)
  under_heeds h = heeds_then bracket.take_heeds taken fails_taken
    where
      given_fails : (x : X) (r : Res (Unit {0})) → is_ok r ≡ false → Fails well (end (ending.after x r))
      given_fails x (Ok _) e = absurd (true≢false e)
      given_fails x (Err d) e = fails_end (honest.after_error x d)

      taken : (r : Res (Unit {0})) → Heeds f well (held_taken ending give body r)
      taken (Err e) = heeds_end
      taken (Ok _) =
          heeds_then h (λ x. heeds_then bracket.give_heeds (λ r. heeds_end) (given_fails x))
          (λ x e. fails_after give (λ r. fails_end (still_bad honest x r e)))

      fails_taken : (r : Res (Unit {0})) → is_ok r ≡ false → Fails well (held_taken ending give body r)
      fails_taken (Ok _) e = absurd (true≢false e)
      fails_taken (Err d) e = fails_end (honest.before d)

  pub under_addressed : Addressed body → Addressed (held ending take give body)
  under_addressed b = only_then bracket.take_addressed taken
    where
      taken : (r : Res (Unit {0})) → Addressed (held_taken ending give body r)
      taken (Err e) = only_end
      taken (Ok _) = only_then b (λ x. only_then bracket.give_addressed (λ r. only_end))

  -- the body has the bits s besides m
  pub under_wp : (m : ℕ → Bool) → ((W : View) → Now (plus m s) W → Wp f (Ends well (plus m s)) W body)
      → (W : View) → Now m W → Wp f (Ends well m) W (held ending take give body)
  under_wp m h W now = wp_then (wp_mono taken (bracket.takes m W now))
    where
      given : (x : X) → well x ≡ true → (W₁ : View) (r : Res (Unit {0})) → EndsIf (is_ok r) m W₁ → Wp f (Ends well m) W₁ (end (ending.after x r))
      given x e W₁ (Ok _) n = wp_end (subst (λ c. EndsIf c m W₁) (sym (honest.after x ∙ e)) n)
      given x e W₁ (Err d) l = wp_end (ends_bad (honest.after_error x d) l)

      back : ((i : ℕ) → bit i s ≡ true → m i ≡ false) → (W₁ : View) (x : X) (c : Bool) → well x ≡ c → EndsIf c (plus m s) W₁
          → Wp f (Ends well m) W₁ (held_done ending give x)
      back apart W₁ x true e n = wp_then (wp_mono (given x e) (gives_back bracket apart W₁ n))
      back apart W₁ x false e l = wp_then (wp_mono (λ W₂ r q. wp_end (ends_bad (still_bad honest x r e) q)) (gives_back_least bracket apart W₁ l))

      taken : (W₁ : View) (r : Res (Unit {0})) → Took m s W₁ r → Wp f (Ends well m) W₁ (held_taken ending give body r)
      taken W₁ (Ok _) t = wp_then (wp_mono (λ W₂ x q. back t.1 W₂ x (well x) refl q) (h W₁ t.0))
      taken W₁ (Err e) l = wp_end (ends_bad (honest.before e) l)

  pub under : Sound f well body → Sound f well (held ending take give body)
  under b =
      record {
        made = made_then bracket.take_made taken;
        balanced = λ m. under_wp m (b.balanced (plus m s));
        heeds = under_heeds b.heeds;
        addressed = under_addressed b.addressed;
      }
    where
      taken : (r : Res (Unit {0})) → Made f (held_taken ending give body r)
      taken (Err e) = done _
      taken (Ok _) = made_then b.made (λ x. made_then bracket.give_made (λ r. done _))

-- ---- acquire_bits and release_bits

pub bits_bracket : (port : Port) (mask : ℕ) → Bracket port.family (software mask) (acquire_bits port mask) (release_bits port mask)
unfolding acquire_bits release_bits bits
bits_bracket port mask =
    record {
      takes = λ m W now. acquires m (bits mask) (software_bits mask) (mux port mask) (λ W₁ n z. (n, z)) (λ W₁ e l. l) 1000 0 W now;
      gives = λ m W now own.
          let go = releases m (software mask) (software_bits mask) (settle mask) own (gave m) (λ W₁ e l. l) W now in
          wp_pick (mux port mask) (λ _. wp_then (quiet_wp (quiet_mux port.family false) (or_stop_lem (λ _. go) (λ e. least (λ i p. and_left _ _ p) now)))) (λ _. go);
      take_made = made_plain (plain_acquire port mask);
      give_made = made_plain (plain_release port mask);
      take_heeds = heeds_lock (heeded.acquires port mask);
      give_heeds = heeds_lock (heeded.releases port mask);
      take_addressed = plain_addressed port.family (plain_acquire port mask);
      give_addressed = plain_addressed port.family (plain_release port mask);
    }
  where
    gave : (m : ℕ → Bool) (W₁ : View) (r : Res (Unit {0})) → Now (minus m (software mask)) W₁ → Gave m (software mask) W₁ r
    gave m W₁ (Ok _) n = n
    gave m W₁ (Err e) n = least (λ i p. p) n
