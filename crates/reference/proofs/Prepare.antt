-- `bringup` is the family's `prepare`, then its `setup` on the result
use mathlib.Core.Path.{◌≡◌, sym, ap, ap₂, ◌∙◌}
use Prim.Native.Nat.{ℕ}
use mathlib.Core.Bool.{Bool, true, false}
use lib.Dec.{eqb}
use Rattle.hardware.specs.Talk.{Call, ◌>>=◌, ◌>>◌, return, pick}
use Rattle.hardware.specs.declared.Family.{Family}
use Rattle.hardware.specs.declared.Family.TheVariants as familyv
use Rattle.hardware.specs.declared.Port.{Port}
use Rattle.answers.specs.declared.Value.{Value}
use Rattle.answers.specs.declared.Value.TheVariants as valuev
use Rattle.reference.specs.X552 as x552
use Rattle.reference.specs.X553 as x553
use Rattle.reference.proofs.Laws.{pick_then, bind_assoc}
use Rattle.reference.specs.Bringup.{bringup, bringup_of, bringup552, bringup553}

pub prepare_552 : {A : Type 0} (port : Port) (veto : Bool) (k : x552.Prepared → Call A) → x552.prepare_then port veto k ≡ (x552.prepare port veto >>= k)
prepare_552 port veto k =
    ap (λ t. pick (eqb port.device 0x15ad) t (k x552.nothing)) (sym (bind_assoc (x552.prepare_copper port veto) (λ x. return (x552.copper x)) k))
    ∙ sym (pick_then (eqb port.device 0x15ad) (x552.prepare_copper port veto >>= λ x. return (x552.copper x)) (return x552.nothing) k)

speed_then : {A B : Type 0} (device : ℕ) (t : Call A) (k : A → Call B) → x553.set_mdio_speed device (t >>= k) ≡ (x553.set_mdio_speed device t >>= k)
speed_then device t k =
    sym (pick_then (x553.slow_device device) (x552.mdio_clock false >> t) (pick (x553.firmware_phy device) (x552.mdio_clock true >> t) t) k
    ∙ ap₂ (pick (x553.slow_device device)) (bind_assoc (x552.mdio_clock false) (λ _. t) k)
    (pick_then (x553.firmware_phy device) (x552.mdio_clock true >> t) t k
    ∙ ap (λ s. pick (x553.firmware_phy device) s (t >>= k)) (bind_assoc (x552.mdio_clock true) (λ _. t) k)))

device_then : {A : Type 0} (port : Port) (veto : Bool) (k : x553.Prepared → Call A)
    → x553.prepare_device port veto k ≡ (x553.prepare_device port veto return >>= k)
device_then port veto k =
    let copper : Call x553.Prepared = x552.prepare_copper port veto >>= λ x. return (x553.x557 x) in
    let firmware : Call x553.Prepared = x553.prepare_firmware port veto >>= λ p. return p in
    sym (pick_then (eqb port.device 0x15c8) copper (pick (x553.firmware_phy port.device) firmware (return x553.nothing)) k
    ∙ ap₂ (pick (eqb port.device 0x15c8)) (bind_assoc (x552.prepare_copper port veto) (λ x. return (x553.x557 x)) k)
    (pick_then (x553.firmware_phy port.device) firmware (return x553.nothing) k
    ∙ ap (λ s. pick (x553.firmware_phy port.device) s (k x553.nothing)) (bind_assoc (x553.prepare_firmware port veto) (λ p. return p) k)))

pub prepare_553 : {A : Type 0} (port : Port) (veto : Bool) (k : x553.Prepared → Call A) → x553.prepare_then port veto k ≡ (x553.prepare port veto >>= k)
prepare_553 port veto k =
    ap (x553.set_mdio_speed port.device) (device_then port veto k) ∙ speed_then port.device (x553.prepare_device port veto return) k

-- the Rust's lines
abbrev pub lines : ℕ → Port → Bool → Family → Call Value
lines pause port veto familyv.X552 =
    do
      p ← x552.prepare port veto
      s ← x552.setup pause port veto p
      return (valuev.X552 s)
lines pause port veto familyv.X553 =
    do
      p ← x553.prepare port veto
      s ← x553.setup pause port veto p
      return (valuev.X553 s)

pub bringup_lines : (pause : ℕ) (port : Port) (veto : Bool) → bringup pause port veto ≡ lines pause port veto port.family
unfolding bringup
bringup_lines pause port veto = go port.family
  where
    go : (f : Family) → bringup_of pause port veto f ≡ lines pause port veto f
    go familyv.X552 = prepare_552 port veto (bringup552 pause port veto)
    go familyv.X553 = prepare_553 port veto (bringup553 pause port veto)
