-- How conversations heed the errors of acquire_bits and release_bits
use Rattle.std.specs.Prelude.{Err, Ok}
use Rattle.hardware.specs.Talk.{Talk, Call, Res, end, ask, and_then, or_stop, ◌>>=◌}
use mathlib.Core.Path.{◌≡◌, refl, sym, ap, ◌∙◌}
use mathlib.Core.Bool.{Bool, false, true≢false}
use Rattle.hardware.specs.declared.Family.{Family}
use Rattle.hardware.proofs.Laws.{then_end, then_assoc}
use Rattle.mixing.specs.Model.{On}
use Rattle.mixing.specs.Only.{Only, only_end, only_ask}
use Rattle.mixing.specs.Heeded.{LockCall, lock_talk, NotLock, Fails, fails_end, fails_ask, Heeds, heeds_end, heeds_ask, heeds_call}
use Rattle.mixing.specs.Events.{is_ok}

-- whatever comes first
pub fails_after : {A B : Type 0} {well : B → Bool} (t : Talk A) {k : A → Talk B} → ((a : A) → Fails well (k a)) → Fails well (and_then t k)
fails_after (end a) h = h a
fails_after (ask a c) h = fails_ask (λ r. fails_after (c r) h)

-- where it does not pass over the first one's error
pub fails_then : {A B : Type 0} {well : A → Bool} {well' : B → Bool} {t : Talk A} {k : A → Talk B} → Fails well t
    → ((a : A) → well a ≡ false → Fails well' (k a)) → Fails well' (and_then t k)
fails_then (fails_end e) h = h _ e
fails_then (fails_ask p) h = fails_ask (λ r. fails_then (p r) h)

pub heeds_then : {A B : Type 0} {f : Family} {well : A → Bool} {well' : B → Bool} {t : Talk A} {k : A → Talk B} → Heeds f well t
    → ((a : A) → Heeds f well' (k a)) → ((a : A) → well a ≡ false → Fails well' (k a)) → Heeds f well' (and_then t k)
heeds_then heeds_end h e = h _
heeds_then (heeds_ask o p) h e = heeds_ask o (λ r. heeds_then (p r) h e)
heeds_then {k = k} (heeds_call x c q p z) h e =
    heeds_call x (λ r. and_then (c r) k) (ap (λ t. and_then t k) q ∙ then_assoc (lock_talk x) c k) (heeds_then p h e) (λ d. fails_then (z d) e)

stop_fails : {A B : Type 0} (k : A → Call B) (r : Res A) → is_ok r ≡ false → Fails is_ok (or_stop k r)
stop_fails k (Ok a) e = absurd (true≢false e)
stop_fails k (Err d) e = fails_end refl

pub heeds_bind : {A B : Type 0} {f : Family} {t : Call A} {k : A → Call B} → Heeds f is_ok t → ((a : A) → Heeds f is_ok (k a)) → Heeds f is_ok (t >>= k)
heeds_bind {f = f} {k = k} p h = heeds_then p stop (stop_fails k)
  where
    stop : (r : Res _) → Heeds f is_ok (or_stop k r)
    stop (Ok a) = h a
    stop (Err e) = heeds_end

-- a call by itself
pub heeds_lock : {f : Family} (x : LockCall) → Heeds f is_ok (lock_talk x)
heeds_lock x = heeds_call x end (sym (then_end (lock_talk x))) heeds_end (λ e. fails_end refl)

pub heeds_only : {A : Type 0} {f : Family} {well : A → Bool} {t : Talk A} → Only (On NotLock f) t → Heeds f well t
heeds_only only_end = heeds_end
heeds_only (only_ask o p) = heeds_ask o (λ r. heeds_only (p r))
