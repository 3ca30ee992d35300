-- What follows acquire_bits, release_bits or a command asks for what they ask for, and goes on behind their end
use Rattle.hardware.specs.Talk.{Talk, Call, Res, Reply, end, ask, and_then, attempt, ◌>>=◌}
use Prim.Native.Nat.{ℕ}
use mathlib.Core.Bool.{Bool, true, false}
use mathlib.Core.List.{List}
use mathlib.Core.Path.{◌≡◌, refl, ap, sym, subst, fun_ext, ◌∙◌}
use Rattle.hardware.specs.declared.Action.{Action}
use Rattle.sync.specs.Sync.{resume_sync}
use Rattle.sync.specs.declared.sync.Sync.{Sync}
use Rattle.sync.specs.declared.sync.SyncCall.{SyncCall}
use Rattle.reference.specs.Acquire.{forget}
use Rattle.jobs.specs.Token.{token_words}
use Rattle.access.specs.Frame.{command_by, token_by, acquire_times_by, acquire_ask_by, acquire_got_by, release_rest_by}
use Rattle.access.proofs.Chosen.{token_cut}
use Rattle.jobs.specs.List.{list_of}
use Rattle.sync.specs.Sync.{give_bits}
use Rattle.access.specs.Frame.{command_bits}
use Rattle.access.specs.Access.{beside, exchange_then, command_synced, rest_of, opened, opening, closed, closing, bits_then, command_then, sync_call, sync_then}
use Rattle.access.specs.declared.frame.Frame.{Frame}
use Rattle.access.specs.declared.place.HoldFor.{HoldFor}
use Rattle.access.specs.declared.place.HoldFor.TheVariants as hold
use Rattle.access.specs.declared.place.BitsPlace.{BitsPlace}
use Rattle.access.specs.declared.place.BitsPlace.TheVariants as bits
use Rattle.access.specs.declared.place.TokenPlace.TheVariants as token
use Rattle.access.specs.declared.place.CommandFor.{CommandFor}
use Rattle.access.specs.declared.place.CommandFor.TheVariants as whose
use Rattle.access.specs.declared.place.CommandPlace.TheVariants as command
use Rattle.access.specs.declared.place.SyncFor.{SyncFor}
use Rattle.access.specs.declared.place.SyncFor.TheVariants as why
use Rattle.access.specs.declared.place.Under.{Under}

opened_ask : (f : Frame) (h : HoldFor) (ws : List ℕ) (a : Action) (k : Reply → Call (Unit {0})) → opened f h ws (ask a k) ≡ ask a (λ r. opened f h ws (k r))
opened_ask f hold.Alone ws a k = refl
opened_ask f (hold.Acquiring body) ws a k = refl
opened_ask f (hold.Listing phy i n) ws a k = refl
opened_ask f (hold.Releasing result n) ws a k = refl

closed_ask : (h : HoldFor) (ws : List ℕ) (a : Action) (k : Reply → Call (Unit {0})) → closed h ws (ask a k) ≡ ask a (λ r. closed h ws (k r))
closed_ask hold.Alone ws a k = refl
closed_ask (hold.Acquiring body) ws a k = refl
closed_ask (hold.Listing phy i n) ws a k = refl
closed_ask (hold.Releasing result n) ws a k = refl

pub opening_ask : (u : Under) (ws : List ℕ) (a : Action) (k : Reply → Call (Unit {0})) → opening u ws (ask a k) ≡ ask a (λ r. opening u ws (k r))
unfolding opening
opening_ask u ws a k = opened_ask u.frame u.hold ws a k

pub closing_ask : (u : Under) (ws : List ℕ) (a : Action) (k : Reply → Call (Unit {0})) → closing u ws (ask a k) ≡ ask a (λ r. closing u ws (k r))
unfolding closing
closing_ask u ws a k = closed_ask u.hold ws a k

pub bits_ask : (u : Under) (ws : List ℕ) (p : BitsPlace) (a : Action) (k : Reply → Call (Unit {0})) → bits_then u ws p (ask a k) ≡ ask a (λ r. bits_then u ws p (k r))
bits_ask u ws bits.Plain a k = opening_ask u ws a k
bits_ask u ws (bits.Taking n) a k = opening_ask u ws a _
bits_ask u ws (bits.Freeing n granted) a k = opening_ask u ws a _
bits_ask u ws (bits.Giving given) a k = closing_ask u ws a _

pub command_ask : (u : Under) (ws : List ℕ) (c : CommandFor) (a : Action) (k : Reply → Talk (Res ℕ × List ℕ)) → command_then u ws c (ask a k) ≡ ask a (λ r. command_then u ws c (k r))
command_ask u ws (whose.Job words) a k = refl
command_ask u ws (whose.Token (token.Taking n)) a k = opening_ask u ws a _
command_ask u ws (whose.Token token.Giving) a k = closing_ask u ws a _

pub sync_ask : (u : Under) (w : SyncFor) (b : List ℕ) (a : Action) (k : Reply → Call (Unit {0})) → sync_then u w b (ask a k) ≡ ask a (λ r. sync_then u w b (k r))
sync_ask u (why.Bits p) b a k = bits_ask u (list_of b) p a k
sync_ask u (why.Command c command.Acquiring) b a k = command_ask u (rest_of c b) c a _
sync_ask u (why.Command c (command.Releasing result)) b a k = command_ask u (rest_of c b) c a _

-- so all that follows goes on from the end
pub sync_end : (u : Under) (w : SyncFor) (b : List ℕ) (t : Call (Unit {0})) → sync_then u w b t ≡ and_then t (λ r. sync_then u w b (end r))
sync_end u w b (end r) = refl
sync_end u w b (ask a k) = sync_ask u w b a k ∙ ap (ask a) (fun_ext (λ r. sync_end u w b (k r)))

-- what follows an exchange is what follows its command, once SW_MNG is given back
pub exchange_lem : (u : Under) (c : CommandFor) (ws : List ℕ) (t : Talk (Res ℕ × List ℕ))
    → exchange_then u c (beside ws t) ≡ command_then u ws c (and_then t (λ p. command_synced u.frame (command.Releasing p.0) (give_bits (command_bits u.frame)) p.1))
exchange_lem u c ws (end p) = refl
exchange_lem u c ws (ask a k) = ap (ask a) (fun_ext (λ r. exchange_lem u c ws (k r))) ∙ sym (command_ask u ws c a _)

-- where it begins: `start` is acquire_bits or release_bits
pub sync_begun : (start : SyncCall → Call (Unit {0})) (u : Under) (w : SyncFor) (b : List ℕ) {call : SyncCall} {a : Action} (s : Sync) {t : Talk (Res ℕ × List ℕ)}
    → sync_call u w ≡ call → start call ≡ ask a (λ r. resume_sync call s r) → sync_then u w b (ask a (λ r. resume_sync (sync_call u w) s r)) ≡ t
    → sync_then u w b (start (sync_call u w)) ≡ t
sync_begun start u w b {call} {a} s is e f =
    ap (sync_then u w b) (subst (λ (c : SyncCall). start c ≡ ask a (λ r. resume_sync c s r)) (sym is) e) ∙ f

-- the token is asked for, by its command
pub ask_begun : (u : Under) (ws : List ℕ) (n : ℕ) {t : Talk (Res ℕ × List ℕ)} → command_then u ws (whose.Token (token.Taking n)) (command_by u.frame (token_words u.frame.lan true)) ≡ t
    → opening u ws (acquire_ask_by u.frame (acquire_times_by u.frame n)) ≡ t
ask_begun u ws n e =
    ap (λ (c : Call Bool). opening u ws (attempt c >>= acquire_got_by u.frame (acquire_times_by u.frame n))) (token_cut u.frame true) ∙ e

-- and given back
pub give_begun : (u : Under) (ws : List ℕ) {t : Talk (Res ℕ × List ℕ)} → command_then u ws (whose.Token token.Giving) (command_by u.frame (token_words u.frame.lan false)) ≡ t
    → closing u ws (attempt (token_by u.frame false) >>= (λ given. release_rest_by u.frame (forget given))) ≡ t
give_begun u ws e = ap (λ (c : Call Bool). closing u ws (attempt c >>= (λ given. release_rest_by u.frame (forget given)))) (token_cut u.frame false) ∙ e
