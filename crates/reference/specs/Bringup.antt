-- What a driver calls on the port's family: `after_reset`, and the family's `prepare` and `setup`
use Rattle.std.specs.Prelude.{ℕ, Bool}
use Rattle.hardware.specs.Talk.{Call, ◌>>=◌, return}
use Rattle.hardware.specs.declared.Family.{Family}
use Rattle.hardware.specs.declared.Family.TheVariants as familyv
use Rattle.hardware.specs.declared.Port.{Port}
use Rattle.answers.specs.declared.Value.{Value}
use Rattle.answers.specs.declared.Value.TheVariants as valuev
use Rattle.reference.specs.X552 as x552
use Rattle.reference.specs.X553 as x553

-- the family's
abbrev pub after_reset : Port → Family → Call (Unit {0})
after_reset port familyv.X552 = x552.after_reset port
after_reset port familyv.X553 = x553.after_reset port

abbrev pub bringup552 : ℕ → Port → Bool → x552.Prepared → Call Value
bringup552 pause port veto prepared =
    do
      s ← x552.setup pause port veto prepared
      return (valuev.X552 s)

abbrev pub bringup553 : ℕ → Port → Bool → x553.Prepared → Call Value
bringup553 pause port veto prepared =
    do
      s ← x553.setup pause port veto prepared
      return (valuev.X553 s)

abbrev pub bringup_of : ℕ → Port → Bool → Family → Call Value
bringup_of pause port veto familyv.X552 = x552.prepare_then port veto (bringup552 pause port veto)
bringup_of pause port veto familyv.X553 = x553.prepare_then port veto (bringup553 pause port veto)

-- the family's `prepare`, then its `setup` on the result, both with the call's veto
unfoldable pub bringup : ℕ → Port → Bool → Call Value
bringup pause port veto = bringup_of pause port veto port.family
