-- kr_write's closure, regrouped as the machine goes through it
use Rattle.hardware.specs.Talk.{Call, ◌>>=◌, ◌>>◌, write, pick, return, fail, is_clear}
use Prim.Native.Nat.{ℕ}
use mathlib.Core.Bool.{Bool, true, false}
use mathlib.Core.Path.{◌≡◌, refl, ap, ◌∙◌, fun_ext}
use Rattle.hardware.specs.declared.Error.{Error}
use Rattle.hardware.specs.declared.Error.TheVariants.{Sideband}
use Rattle.reference.specs.X552.{iosf_idle, iosf_check}
use Rattle.reference.proofs.Laws.{bind_assoc}
use Rattle.sideband.specs.Kr.{kr_body, kr_first}
use Rattle.sideband.specs.declared.kr_access.KrWanted.{KrWanted}
use Rattle.sideband.specs.declared.kr_access.KrWanted.TheVariants as wanted

abbrev zero : Unit {0} → Call ℕ
zero _ = return 0

checked : (good : Bool) (e : Error) → pick good (return tt) (fail e) >>= zero ≡ pick good (return 0) (fail e)
checked true e = refl
checked false e = refl

module _ (pause a v : ℕ) where
  abbrev check : ℕ → Call (Unit {0})
  check ctrl = iosf_check a ctrl (return tt)

  write_begun : kr_body pause (wanted.Write a v) ≡ kr_first pause (wanted.Write a v) (iosf_idle pause)
  write_begun =
      bind_assoc (iosf_idle pause) (λ _. write 0x11144 a >> (write 0x11148 v >> (iosf_idle pause >>= check))) zero
      ∙ ap (λ (t : Call ℕ). iosf_idle pause >> t) (bind_assoc (write 0x11144 a) (λ _. write 0x11148 v >> (iosf_idle pause >>= check)) zero
      ∙ ap (λ (t : Call ℕ). write 0x11144 a >> t) (bind_assoc (write 0x11148 v) (λ _. iosf_idle pause >>= check) zero
      ∙ ap (λ (t : Call ℕ). write 0x11148 v >> t) (bind_assoc (iosf_idle pause) check zero
      ∙ ap (λ (k : ℕ → Call ℕ). iosf_idle pause >>= k) (fun_ext (λ ctrl. checked (is_clear ctrl 0xc0000) (Sideband a ctrl))))))

-- the closure, by the machine's first wait
pub begun : (pause : ℕ) (w : KrWanted) → kr_body pause w ≡ kr_first pause w (iosf_idle pause)
begun pause (wanted.Read a) = refl
begun pause (wanted.Write a v) = write_begun pause a v
