-- What the suspended closure of a `kr_read` or `kr_write` still says. `pause` is the wait of `iosf_idle`, in microseconds
use Rattle.hardware.specs.Told.{told}
use Rattle.hardware.specs.declared.Action.{Action}
use Rattle.hardware.specs.declared.Step.{Step}
use Rattle.hardware.specs.Talk.{Call, Res, end, ◌>>=◌, ◌>>◌, read_raw, write, return, raw, done, Reply}
use Rattle.std.specs.Prelude.{ℕ}
use Rattle.reference.specs.X552.{iosf_idle, iosf_check, kr_read_body, kr_write_body}
use Rattle.sideband.specs.Idle.{resume_idle}
use Rattle.sideband.specs.declared.kr_access.KrWanted.{KrWanted}
use Rattle.sideband.specs.declared.kr_access.KrWanted.TheVariants as wanted
use Rattle.sideband.specs.declared.kr_access.Kr.{Kr}
use Rattle.sideband.specs.declared.kr_access.Kr.TheVariants as kr

-- the closure that it is; a write gives 0
abbrev pub kr_body : ℕ → KrWanted → Call ℕ
kr_body pause (wanted.Read a) = kr_read_body pause a
kr_body pause (wanted.Write a v) = kr_write_body pause a v >> return 0

abbrev pub kr_address : KrWanted → ℕ
kr_address (wanted.Read a) = a
kr_address (wanted.Write a v) = a

-- what is left after the second wait, if its response is good
abbrev pub kr_rest : KrWanted → Call ℕ
kr_rest (wanted.Read a) = read_raw 0x11148
kr_rest (wanted.Write a v) = return 0

-- from the second wait on
abbrev pub kr_checked : KrWanted → Call ℕ → Call ℕ
kr_checked w t =
    do
      ctrl ← t
      iosf_check (kr_address w) ctrl (kr_rest w)

-- what follows the selection
abbrev pub kr_after_select : ℕ → KrWanted → Call ℕ
kr_after_select pause (wanted.Read a) = kr_checked (wanted.Read a) (iosf_idle pause)
kr_after_select pause (wanted.Write a v) =
    do
      write 0x11148 v
      kr_checked (wanted.Write a v) (iosf_idle pause)

abbrev pub kr_selected : ℕ → KrWanted → Res (Unit {0}) → Call ℕ
kr_selected pause w selected = end selected >> kr_after_select pause w

-- from the first wait on
abbrev pub kr_first : ℕ → KrWanted → Call ℕ → Call ℕ
kr_first pause w t =
    do
      t
      write 0x11144 (kr_address w)
      kr_after_select pause w

-- with DATA's reply
abbrev pub kr_data : ℕ → KrWanted → Reply → Call ℕ
kr_data pause (wanted.Read a) r = end (raw r)
kr_data pause (wanted.Write a v) r = end (done r) >> kr_checked (wanted.Write a v) (iosf_idle pause)

abbrev pub resume_kr : ℕ → KrWanted → Kr → Reply → Call ℕ
resume_kr pause w (kr.First s) r = kr_first pause w (resume_idle pause s r)
resume_kr pause w kr.Select r = kr_selected pause w (done r)
resume_kr pause w (kr.Second s) r = kr_checked w (resume_idle pause s r)
resume_kr pause w kr.Data r = kr_data pause w r

abbrev pub told_kr : ℕ → KrWanted → Step Action Kr (Res ℕ) → Call ℕ
told_kr pause w = told (resume_kr pause w)
