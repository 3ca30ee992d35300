-- What a suspended command still says, with the words that are lent now, and how it leaves them
use Rattle.hardware.specs.declared.Action.{Action}
use Rattle.hardware.specs.declared.Step.{Step}
use Rattle.hardware.specs.Talk.{Talk, Res, Reply, and_then}
use Rattle.hardware.specs.Told.{told_by}
use Rattle.std.specs.Prelude.{ℕ, List}
use Rattle.sync.specs.Sync.{give_bits, resume_sync}
use Rattle.hostif.specs.Exchange.{resume_exchange}
use Rattle.access.specs.Frame.{command_bits}
use Rattle.access.specs.Access.{command_synced}
use Rattle.access.specs.declared.frame.Frame.{Frame}
use Rattle.access.specs.declared.place.CommandPlace.TheVariants as command
use Rattle.long.specs.declared.command.Long.{Long}
use Rattle.long.specs.declared.command.LongPlace.{LongPlace}
use Rattle.long.specs.declared.command.LongPlace.TheVariants as place

-- what follows its exchange
abbrev pub exchange_ended : Frame → Talk (Res ℕ × List ℕ) → Talk (Res ℕ × List ℕ)
exchange_ended f t = and_then t (λ p. command_synced f (command.Releasing p.0) (give_bits (command_bits f)) p.1)

abbrev pub resume_at : Frame → LongPlace → List ℕ → Reply → Talk (Res ℕ × List ℕ)
resume_at f (place.Sync p s) b r = command_synced f p (resume_sync (command_bits f) s r) b
resume_at f (place.Exchange s) b r = exchange_ended f (resume_exchange s b r)

abbrev pub resume_long : Long → List ℕ → Reply → Talk (Res ℕ × List ℕ)
resume_long l b r = resume_at l.frame l.place b r

abbrev pub told_long : List ℕ → Step Action Long (Res ℕ) → Talk (Res ℕ × List ℕ)
told_long b = told_by (λ status. (status, b)) (λ l r. resume_long l b r)
