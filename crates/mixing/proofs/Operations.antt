-- Every operation of document 01 that is mixed keeps the rules: a line each
use Rattle.std.specs.Prelude.{Err, Ok}
use Rattle.hardware.specs.Talk.{Call, Res, is_clear}
use Prim.Native.Nat.{ℕ}
use mathlib.Core.Path.{◌≡◌, refl, sym}
use mathlib.Core.Bool.{Bool, true, false, ◌&&◌, true≢false}
use mathlib.Core.List.{List, []}
use Rattle.hardware.specs.declared.Family.{Family}
use Rattle.hardware.specs.declared.Family.TheVariants as familyv
use Rattle.hardware.specs.declared.Port.{Port}
use Rattle.hardware.proofs.Refusal.{Taken, taken}
use Rattle.answers.specs.declared.Value.{Value}
use Rattle.reference.specs.Hardware as hardware
use Rattle.reference.specs.Bringup.{after_reset, bringup552, bringup553, bringup_of, bringup}
use Rattle.reference.specs.Out.{answer}
use Rattle.operations.specs.Pairs.{pairs_of}
use Rattle.operations.specs.Request.{request, refused}
use Rattle.operations.specs.Operations.{operation}
use Rattle.operations.specs.Windows.{inside}
use Rattle.operations.specs.declared.Operation.{Operation}
use Rattle.operations.specs.declared.Operation.TheVariants as operationv
use Rattle.mixing.specs.Heeded.{ended_well}
use Rattle.mixing.specs.Mixing.{takes}
use Rattle.mixing.specs.Operations.{mixable}
use Rattle.mixing.specs.Events.{is_ok}
use Rattle.mixing.proofs.Hostif.{s_command, s_token, s_activity}
use Rattle.mixing.proofs.Kr.{reads_kr, writes_kr}
use Rattle.mixing.proofs.Lock.{and_left}
use Rattle.mixing.proofs.Mdio.{s_read_reg, s_list, s_write_reg, s_modify, s_probe, s_scan, s_reset, s_abilities, s_advertise, s_an_link}
use Rattle.mixing.proofs.Only.{far}
use Rattle.mixing.proofs.Sound.{Sound, ends, picks, bind, bind_block, keeps}
use Rattle.mixing.proofs.X552.{s_read, s_nvm, s_kr_modify, s_restart, s_autoneg, s_poll}
use Rattle.mixing.proofs.X552 as sound552
use Rattle.mixing.proofs.X553 as sound553

answers : {A : Type 0} {f : Family} {t : Call A} (g : A → Value) → Sound f is_ok t → Sound f ended_well (answer g t)
answers g s = keeps [] (bind s (λ a. ends))

module _ (port : Port) where
  s_linked : (value : ℕ) → Sound port.family is_ok (hardware.linked port.family value)
  unfolding hardware.linked
  s_linked value = picks (is_clear value 0x40000000) ends ends

  s_after_reset : (g : Family) → Sound port.family is_ok (after_reset port g)
  s_after_reset familyv.X552 = sound552.s_after_reset port
  s_after_reset familyv.X553 = sound553.s_after_reset port

  s_bringup_of : (veto : Bool) (g : Family) → Sound port.family is_ok (bringup_of port.pause port veto g)
  s_bringup_of veto familyv.X552 = sound552.s_prepare port {after = bringup552 port.pause port veto} veto (λ p. bind (sound552.s_setup port veto p) (λ s. ends))
  s_bringup_of veto familyv.X553 = sound553.s_prepare port {after = bringup553 port.pause port veto} veto (λ p. bind (sound553.s_setup port veto p) (λ s. ends))

  s_bringup : (veto : Bool) → Sound port.family is_ok (bringup port.pause port veto)
  unfolding bringup
  s_bringup veto = s_bringup_of veto port.family

  pub sound_op : (what : Operation) (ws : List ℕ) → mixable what ≡ true → Taken (request port what ws)
      → Sound port.family ended_well (operation port what ws)
  unfolding request
  sound_op operationv.Veto ws m h = answers _ (bind (s_read (far 0x42d0 tt tt port.family)) (λ mmngc. ends))
  sound_op operationv.Link ws m h = answers _ (bind (s_read (far 0x42a4 tt tt port.family)) s_linked)
  sound_op (operationv.Acquire mask) ws m h = absurd (true≢false (sym m))
  sound_op (operationv.Release mask) ws m h = absurd (true≢false (sym m))
  sound_op operationv.Command ws m h = bind_block (s_command port ws h.words) (λ status b. ends)
  sound_op (operationv.Token take) ws m h = answers _ (s_token port take)
  sound_op (operationv.PhyActivity asked) ws m h = answers _ (s_activity port asked.activity asked.data.w0 asked.data.w1 asked.data.w2 asked.data.w3)
  sound_op (operationv.ReadReg phy device register) ws m h = answers _ (s_read_reg port phy device register)
  sound_op (operationv.MdioList phy) ws m h = bind_block (s_list port phy (pairs_of ws)) (λ _ values. ends)
  sound_op (operationv.WriteReg phy device register value) ws m h = answers _ (s_write_reg port phy device register value)
  sound_op (operationv.Modify at) ws m h = answers _ (s_modify port at.phy at.device at.register at.keep at.set)
  sound_op (operationv.Probe phy) ws m h = answers _ (s_probe port phy)
  sound_op operationv.Scan ws m h = answers _ (s_scan port)
  sound_op (operationv.Reset phy x557) ws m h = answers _ (s_reset port phy x557)
  sound_op (operationv.Abilities phy) ws m h = answers _ (s_abilities port phy)
  sound_op (operationv.Advertise asked) ws m h = answers _ (s_advertise port asked.phy asked.speeds asked.nbase asked.veto)
  sound_op (operationv.AnLink phy) ws m h = answers _ (s_an_link port phy)
  sound_op (operationv.KrRead address) ws m h = answers _ (reads_kr port address h.selected)
  sound_op (operationv.KrWrite address value) ws m h = answers _ (writes_kr port address value h.selected)
  sound_op (operationv.KrModify c) ws m h = answers _ (s_kr_modify port c.port0 c.keep c.set h.selected)
  sound_op operationv.RestartAn ws m h = answers _ (s_restart port)
  sound_op (operationv.KrAutoneg kr kx) ws m h = answers _ (s_autoneg port kr kx)
  sound_op (operationv.NvmWord word) ws m h = answers _ (s_nvm port word)
  sound_op operationv.AfterReset ws m h = answers _ (s_after_reset port.family)
  sound_op (operationv.Bringup veto) ws m h = keeps [] (s_bringup veto)
  sound_op (operationv.Poll w minute) ws m h = answers _ (s_poll port (inside minute ws) w.phy w.internal w.forced w.reforced)

-- one that is mixed is not refused
pub is_ok_lem : (r : Res (Unit {0})) → is_ok r ≡ true → r ≡ Ok tt
is_ok_lem (Ok _) e = refl
is_ok_lem (Err d) e = absurd (true≢false (sym e))

pub and_right : (a b : Bool) → (a && b) ≡ true → b ≡ true
and_right true b h = h
and_right false b h = absurd (true≢false (sym h))

pub sound : (port : Port) (what : Operation) (ws : List ℕ) → takes port what ws ≡ true
    → Sound port.family ended_well (operation port what ws)
sound port what ws h =
    let verdict : Res (Unit {0}) = refused port what ws in
    sound_op port what ws (and_left (mixable what) (is_ok verdict) h)
    (taken (request port what ws) (is_ok_lem verdict (and_right (mixable what) (is_ok verdict) h)))
