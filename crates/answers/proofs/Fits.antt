-- No answer and no error has more than twelve words
use Prim.Native.Nat.{ℕ}
use mathlib.Core.Path.{◌≡◌, refl}
use mathlib.Core.List.{[], ◌∷◌, ◌++◌}
use Rattle.std.specs.Prelude.{Option, None, Some}
use Rattle.hardware.specs.Numbers.{values}
use Rattle.hardware.specs.declared.Error.{Error}
use Rattle.hardware.specs.declared.Error.TheVariants as errorv
use Rattle.words.specs.declared.link.Link.TheVariants as linkv
use Rattle.answers.specs.declared.Copper.TheVariants as copperv
use Rattle.answers.specs.declared.Setup552.TheVariants as setup552v
use Rattle.answers.specs.declared.Setup553.TheVariants as setup553v
use Rattle.answers.specs.declared.Value.{Value}
use Rattle.answers.specs.declared.Value.TheVariants as valuev
use Rattle.answers.specs.Fields.{maybe, value}
use Rattle.answers.specs.Shown.{kept}

internal_fits : (id speeds overtemp : ℕ) (m : Option ℕ) → kept (6 ∷ id ∷ speeds ∷ maybe m ++ overtemp ∷ []) ≡ 6 ∷ id ∷ speeds ∷ maybe m ++ overtemp ∷ []
unfolding kept
internal_fits id speeds overtemp None = refl
internal_fits id speeds overtemp (Some w) = refl

pub value_fits : (v : Value) → kept (value v) ≡ value v
unfolding kept
value_fits valuev.Nothing = refl
value_fits (valuev.Flag b) = refl
value_fits (valuev.Word w) = refl
value_fits (valuev.Link linkv.Down) = refl
value_fits (valuev.Link (linkv.Up None)) = refl
value_fits (valuev.Link (linkv.Up (Some m))) = refl
value_fits (valuev.Command status n) = refl
value_fits (valuev.List n) = refl
value_fits (valuev.Activity w) = refl
value_fits (valuev.Probe None) = refl
value_fits (valuev.Probe (Some id)) = refl
value_fits (valuev.Scan None) = refl
value_fits (valuev.Scan (Some (phy, id))) = refl
value_fits (valuev.Abilities s) = refl
value_fits (valuev.X552 setup552v.Kx4) = refl
value_fits (valuev.X552 setup552v.Xfi) = refl
value_fits (valuev.X552 setup552v.FirmwarePhy) = refl
value_fits (valuev.X552 (setup552v.Kr lc)) = refl
value_fits (valuev.X552 setup552v.ManageabilityVeto) = refl
value_fits (valuev.X552 (setup552v.Copper s)) = refl
value_fits (valuev.X553 (setup553v.Kr lc)) = refl
value_fits (valuev.X553 (setup553v.Kr2500 sel)) = refl
value_fits (valuev.X553 (setup553v.Sgmii s)) = refl
value_fits (valuev.X553 setup553v.ManageabilityVeto) = refl
value_fits (valuev.X553 (setup553v.X557 setup552v.Kx4)) = refl
value_fits (valuev.X553 (setup553v.X557 setup552v.Xfi)) = refl
value_fits (valuev.X553 (setup553v.X557 setup552v.FirmwarePhy)) = refl
value_fits (valuev.X553 (setup553v.X557 (setup552v.Kr lc))) = refl
value_fits (valuev.X553 (setup553v.X557 setup552v.ManageabilityVeto)) = refl
value_fits (valuev.X553 (setup553v.X557 (setup552v.Copper s))) = refl
value_fits (valuev.X553 (setup553v.Firmware s)) = internal_fits _ _ _ s.internal
value_fits (valuev.Poll copperv.Down None n) = refl
value_fits (valuev.Poll copperv.Down (Some s) n) = refl
value_fits (valuev.Poll (copperv.Up m) None n) = refl
value_fits (valuev.Poll (copperv.Up m) (Some s) n) = refl
value_fits (valuev.Poll (copperv.Invalid t) None n) = refl
value_fits (valuev.Poll (copperv.Invalid t) (Some s) n) = refl
value_fits (valuev.Poll (copperv.Held m) None n) = refl
value_fits (valuev.Poll (copperv.Held m) (Some s) n) = refl

pub values_fit : (e : Error) → kept (values e) ≡ values e
unfolding kept
values_fit (errorv.Io code) = refl
values_fit errorv.Removed = refl
values_fit (errorv.Timeout register mask expected last) = refl
values_fit (errorv.Sideband address ctrl) = refl
values_fit (errorv.Semaphore held) = refl
values_fit (errorv.HostInterface hicr) = refl
values_fit (errorv.Firmware command status) = refl
values_fit errorv.NoPhy = refl
values_fit errorv.PhyReset = refl
values_fit errorv.Lan = refl
values_fit errorv.Fiber = refl
values_fit errorv.Address = refl
values_fit errorv.KrAddress = refl
values_fit errorv.Pairs = refl
values_fit errorv.Block = refl
values_fit errorv.Pause = refl
values_fit errorv.Windows = refl
