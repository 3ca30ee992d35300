-- restart_an inside another sequence, whose first value is the answer
use Rattle.std.specs.Prelude.{Some}
use Rattle.hardware.specs.Talk.{Call, ◌>>=◌, ◌>>◌, return}
use Prim.Native.Nat.{ℕ}
use mathlib.Core.Path.{◌≡◌, refl, ap, ◌∙◌, fun_ext}
use Rattle.hardware.specs.declared.Family.{Family}
use Rattle.hardware.specs.declared.Family.TheVariants.{X552, X553}
use Rattle.hardware.specs.declared.Port.{Port}
use Rattle.reference.specs.X552.{restart_an, restart_lane, restarted}
use Rattle.reference.proofs.Laws.{bind_assoc}
use Rattle.kr.specs.Modify.{modify_of}
use Rattle.kr.specs.Sequence.{change_of, sequence_at}
use Rattle.kr.specs.declared.sequence.KrPlace.TheVariants as place

module _ (port : Port) (first : ℕ) where
  lane : (family : Family) (value : ℕ) → restart_lane port.pause port value family >> return first ≡ restart_lane port.pause port first family
  lane X552 value = refl
  lane X553 value = bind_assoc (modify_of port (change_of place.RestartLane)) (λ _. return value) (λ _. return first)

  pub restart_first : restarted port.pause port first ≡ sequence_at port place.Restart (Some first)
  unfolding restart_an
  restart_first =
      bind_assoc (modify_of port (change_of place.Restart)) (λ value. restart_lane port.pause port value port.family) (λ _. return first)
      ∙ ap (λ (k : ℕ → Call ℕ). modify_of port (change_of place.Restart) >>= k) (fun_ext (lane port.family))
