-- What a suspended sequence of `kr_modify` still says, from what its job gives
use Rattle.jobs.specs.declared.job.Job.{Job}
use Rattle.jobs.specs.Job.{told_job}
use Rattle.hardware.specs.declared.Step.{Step}
use Rattle.hardware.specs.Talk.{Call, Res, ◌>>=◌, ◌>>◌, return}
use Rattle.std.specs.Prelude.{ℕ, List, None, Option, Some}
use Rattle.hardware.specs.declared.Port.{Port}
use Rattle.reference.specs.X552.{kr_autoneg_set, kr_autoneg_lane, ixfi_set, restart_lane, restarted}
use Rattle.arguments.specs.Change.{change}
use Rattle.kr.specs.Modify.{modify_of, resume_modify}
use Rattle.arguments.specs.declared.Change.{Change}
use Rattle.kr.specs.declared.sequence.KrPlace.{KrPlace}
use Rattle.kr.specs.declared.sequence.KrPlace.TheVariants as place
use Rattle.kr.specs.declared.sequence.Sequence.{Sequence}

-- what each call of `kr_modify` is for
abbrev pub change_of : KrPlace → Change
change_of (place.Advertise kr kx) = change 0x420c 0x5c000 (kr_autoneg_set kr kx)
change_of place.Lane = change 0x5054 0x76000000 0x48000000
change_of (place.Force ten_gig) = change 0x420c 0x2000c700 (ixfi_set ten_gig)
change_of place.Train = change 0x4b00 0 0x10
change_of place.Ffe4 = change 0x4634 0x18040 0
change_of place.Ffe5 = change 0x4638 0x18040 0
change_of place.Coeff = change 0x5520 0 0x8000000e
change_of place.Restart = change 0x420c 0 0x80000000
change_of place.RestartLane = change 0x5054 0 0x80000000

-- the first value written, where this one is written now
abbrev pub first_of : (Option ℕ) → ℕ → ℕ
first_of None value = value
first_of (Some first) value = first

-- what `ixfi` does after each of its calls
abbrev pub ixfi_coeff : Port → ℕ → Call ℕ
ixfi_coeff port first = modify_of port (change_of place.Coeff) >> restarted port.pause port first

abbrev pub ixfi_ffe5 : Port → ℕ → Call ℕ
ixfi_ffe5 port first = modify_of port (change_of place.Ffe5) >> ixfi_coeff port first

abbrev pub ixfi_ffe4 : Port → ℕ → Call ℕ
ixfi_ffe4 port first = modify_of port (change_of place.Ffe4) >> ixfi_ffe5 port first

-- what the Rust does after it, with the first value written
abbrev pub sequence_then : Port → KrPlace → ℕ → Call ℕ
sequence_then port (place.Advertise kr kx) first = kr_autoneg_lane port.pause port first port.family
sequence_then port place.Lane first = restarted port.pause port first
sequence_then port (place.Force ten_gig) first = modify_of port (change_of place.Train) >> ixfi_ffe4 port first
sequence_then port place.Train first = ixfi_ffe4 port first
sequence_then port place.Ffe4 first = ixfi_ffe5 port first
sequence_then port place.Ffe5 first = ixfi_coeff port first
sequence_then port place.Coeff first = restarted port.pause port first
sequence_then port place.Restart first = restart_lane port.pause port first port.family
sequence_then port place.RestartLane first = return first

abbrev pub sequence_after : Port → KrPlace → (Option ℕ) → Call ℕ → Call ℕ
sequence_after port p first t = t >>= λ value. sequence_then port p (first_of first value)

abbrev pub sequence_at : Port → KrPlace → (Option ℕ) → Call ℕ
sequence_at port p first = sequence_after port p first (modify_of port (change_of p))

-- from this place on, with nothing written yet
abbrev pub sequence_of : Port → KrPlace → Call ℕ
sequence_of port p = sequence_at port p None

abbrev pub resume_sequence : Port → Sequence → Res ℕ → Call ℕ
resume_sequence port s got = sequence_after port s.place s.first (resume_modify port (change_of s.place) s.modify got)

abbrev pub told_sequence : Port → List ℕ → Step Job Sequence (Res ℕ) → Call ℕ
told_sequence port b = told_job port b (λ s got _. resume_sequence port s got)
