-- What follows acquire_bits or release_bits asks for what they ask for
use Prim.Native.Nat.{ℕ}
use mathlib.Core.List.{List}
use mathlib.Core.Path.{◌≡◌, refl, ap, sym, subst, ◌∙◌}
use Rattle.hardware.specs.Talk.{Call, Reply, ask}
use Rattle.hardware.specs.declared.Action.{Action}
use Rattle.sync.specs.Sync.{resume_sync}
use Rattle.sync.specs.declared.sync.Sync.{Sync}
use Rattle.sync.specs.declared.sync.SyncCall.{SyncCall}
use Rattle.access.specs.Frame.{command_bits}
use Rattle.access.specs.Access.{command_synced}
use Rattle.access.specs.declared.frame.Frame.{Frame}
use Rattle.access.specs.declared.place.CommandPlace.{CommandPlace}
use Rattle.access.specs.declared.place.CommandPlace.TheVariants as command
use Rattle.long.specs.Command.{resume_at}
use Rattle.long.specs.declared.command.LongPlace.TheVariants as place

pub synced_ask : (f : Frame) (p : CommandPlace) (b : List ℕ) (a : Action) (k : Reply → Call (Unit {0}))
    → command_synced f p (ask a k) b ≡ ask a (λ r. command_synced f p (k r) b)
synced_ask f command.Acquiring b a k = refl
synced_ask f (command.Releasing status) b a k = refl

-- where it begins: `start` is acquire_bits or release_bits
pub synced_begun : (start : SyncCall → Call (Unit {0})) (f : Frame) (p : CommandPlace) (b : List ℕ) {call : SyncCall} {a : Action} (s : Sync)
    → command_bits f ≡ call → start call ≡ ask a (λ r. resume_sync call s r)
    → command_synced f p (start (command_bits f)) b ≡ ask a (λ r. resume_at f (place.Sync p s) b r)
synced_begun start f p b {call} {a} s is e =
    ap (λ (t : Call (Unit {0})). command_synced f p t b) (subst (λ (c : SyncCall). start c ≡ ask a (λ r. resume_sync c s r)) (sym is) e)
    ∙ synced_ask f p b a (λ r. resume_sync (command_bits f) s r)
