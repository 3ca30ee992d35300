-- What a suspended `iosf_idle` still says
use Rattle.hardware.specs.Told.{told}
use Rattle.hardware.specs.declared.Action.{Action}
use Rattle.hardware.specs.declared.Step.{Step}
use Rattle.hardware.specs.Talk.{Call, end, ◌>>=◌, ◌>>◌, delay, pick, return, is_clear, raw, Reply, Res}
use Rattle.std.specs.Prelude.{ℕ}
use Rattle.reference.specs.X552.{iosf_times}
use Rattle.sideband.specs.declared.idle.Idle.{Idle}
use Rattle.sideband.specs.declared.idle.Idle.TheVariants as idle

abbrev pub resume_idle : ℕ → Idle → Reply → Call ℕ
resume_idle pause (idle.Reading n) r =
    do
      last ← end (raw r)
      pick (is_clear last 0x80000000) (return last) (delay pause >> iosf_times pause n last)
resume_idle pause (idle.Waiting n last) r = iosf_times pause n last

abbrev pub told_idle : ℕ → Step Action Idle (Res ℕ) → Call ℕ
told_idle pause = told (resume_idle pause)
