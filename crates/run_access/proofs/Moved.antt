-- What goes on inside an access
use Rattle.std.proofs.Common.{◌≡◌, refl, sym, ap, subst, ◌∙◌, take}
use Rattle.hardware.specs.Talk.{Talk, Call, Res, Reply, end, ask}
use Prim.Native.Nat.{ℕ}
use mathlib.Core.List.{List, []}
use Rattle.drive.specs.Moves.{Tape, Moves}
use Rattle.drive.proofs.Laws.{from_as, moved, inside, told_as}
use Rattle.hardware.specs.declared.Action.{Action}
use Rattle.hardware.specs.declared.Step.{Step}
use Rattle.hardware.specs.declared.Step.TheVariants as step
use Rattle.reference.specs.Sync.{with_values, held_done}
use Rattle.hardware.specs.Told.{told_by}
use Rattle.hostif.specs.Exchange.{told_exchange}
use Rattle.hostif.specs.declared.exchange.Exchange.{Exchange}
use Rattle.sync.specs.Sync.{give_bits, resume_sync, told_sync}
use Rattle.sync.specs.declared.sync.Sync.{Sync}
use Rattle.sync.specs.declared.sync.SyncCall.{SyncCall}
use Rattle.access.specs.Frame.{command_bits, release_by}
use Rattle.access.specs.Access.{sync_call, sync_then, body_got, body_then, beside, exchange_then, command_then, command_synced, resume_command, resume_place, rest_of, words_of}
use Rattle.access.proofs.Asks.{sync_ask, sync_end}
use Rattle.access.specs.declared.place.CommandFor.{CommandFor}
use Rattle.access.specs.declared.place.CommandPlace.TheVariants as command
use Rattle.access.specs.declared.place.AccessPlace.TheVariants as place
use Rattle.access.specs.declared.place.SyncFor.{SyncFor}
use Rattle.access.specs.declared.place.Under.{Under}

-- of a state whose variant is known, up to what the code gave
pub moves_as : {S A : Type 0} {rs : List ℕ} {m n : Talk A} {t u : Tape} (says : S → Talk A) {s s' : S}
    → s ≡ s' → n ≡ m → Moves rs (says s') t m u → Moves rs (says s) t n u
moves_as says is gave p = from_as (ap says is) (told_as (sym gave) p)

-- acquire_bits or release_bits that goes on
pub sync_moves : {rs : List ℕ} {v w : Tape} {a : Action} (under : Under) (why : SyncFor) (b : List ℕ) (s : Sync) (next : Step Action Sync (Res (Unit {0}))) {call : SyncCall}
    → sync_call under why ≡ call → Moves rs (told_sync call (step.Ask a s)) v (told_sync call next) w
    → Moves rs (ask a (resume_place under (place.Sync why s) b)) v (sync_then under why b (told_sync (sync_call under why) next)) w
sync_moves {rs} {v} {w} {a} under why b s next is q =
    moved (λ r. sync_then under why b (end r)) (sym (sync_ask under why b a (resume_sync (sync_call under why) s)) ∙ sync_end under why b (told_sync (sync_call under why) (step.Ask a s)))
    (sync_end under why b (told_sync (sync_call under why) next))
    (subst (λ (c : SyncCall). Moves rs (told_sync c (step.Ask a s)) v (told_sync c next) w) (sym is) q)

-- the body that goes on
pub body_moves : {rs : List ℕ} {v w : Tape} (u : Under) (ws : List ℕ) {t t' : Call ℕ} → Moves rs t v t' w → Moves rs (body_then u ws t) v (body_then u ws t') w
body_moves u ws q = inside (held_done with_values (release_by u.frame)) (inside (body_got u.hold ws) q)

-- the exchange that goes on
pub exchange_moves : {rs : List ℕ} {v w : Tape} (under : Under) (whose : CommandFor) {t u : Talk ((Res ℕ × List ℕ) × List ℕ)}
    → Moves rs t v u w → Moves rs (exchange_then under whose t) v (exchange_then under whose u) w
exchange_moves under whose q =
    inside (λ q. command_then under q.1 whose (command_synced under.frame (command.Releasing q.0.0) (give_bits (command_bits under.frame)) q.0.1)) q

-- what the exchange's end and its list's words make of a step
pub exchange_told : (whose : CommandFor) (b : List ℕ) (next : Step Action Exchange (Res ℕ))
    → told_by (λ (status : Res ℕ). ((status, take (words_of whose) b), rest_of whose b)) (λ s r. resume_command whose s b r) next
    ≡ beside (rest_of whose b) (told_exchange (take (words_of whose) b) next)
exchange_told whose b (step.Ask a s) = refl
exchange_told whose b (step.Done status) = refl
