-- x552.rs and the Watch keep the rules
use Rattle.std.specs.Prelude.{None, Option, Some}
use Rattle.hardware.specs.Talk.{Call, is_clear, read}
use Prim.Native.Nat.{ℕ, ◌+◌, ◌/◌, ◌%◌, ◌^◌, ◌≤◌}
use native.Mathlib.Omega.{arith}
use mathlib.Core.Path.{refl}
use mathlib.Core.Bool.{Bool, true, false}
use lib.Dec.{eqb}
use Rattle.hardware.specs.declared.Family.{Family}
use Rattle.hardware.specs.declared.Family.TheVariants.{X552, X553}
use Rattle.hardware.specs.declared.Port.{Port}
use Rattle.words.specs.Kr.{krm}
use Rattle.answers.specs.declared.Internal.{Internal}
use Rattle.answers.specs.declared.Internal.TheVariants.{Ixfi, Kr}
use Rattle.answers.specs.declared.Speeds.{Speeds}
use Rattle.answers.specs.declared.X557.{X557}
use Rattle.reference.specs.Mdio.{changed}
use Rattle.reference.specs.Watch.{poll_force}
use Rattle.reference.specs.Window.{Due, nothing as nothing_due, force, due, settle, window_poll}
use Rattle.reference.specs.X552.{
  kr_modify,
  restart_lane,
  restart_an,
  kr_autoneg_lane,
  kr_autoneg,
  ixfi,
  nvm_word,
  mdio_clock,
  prepare_reset,
  prepare_found,
  prepare_probed,
  prepare_scanned,
  prepare_copper,
  Prepared,
  nothing,
  copper,
  prepare_then,
  after_reset,
  without100,
  copper_advertise,
  copper_turn,
  copper_internal,
  copper_link,
  setup_prepared,
  vetoed,
  setup,
}
use Rattle.mixing.specs.Only.{only_end}
use Rattle.mixing.specs.Model.{kind}
use Rattle.mixing.specs.Events.{is_ok}
use Rattle.mixing.proofs.Addressed.{on_lan}
use Rattle.mixing.proofs.Hostif.{q_post}
use Rattle.mixing.proofs.Kr.{reads_kr, writes_kr}
use Rattle.mixing.proofs.Mdio.{s_read_reg, s_modify, s_probe, s_scan, s_reset, s_abilities, s_advertise, s_an_link}
use Rattle.hardware.proofs.Laws.{by_turns}
use Rattle.mixing.proofs.Only.{IsFar, far, only_bind, only_read, only_raw, only_write}
use Rattle.mixing.proofs.Sound.{Sound, quietly, ends, picks, waits, bind, under, honest_plain}
use Rattle.mixing.proofs.Token.{token_bracket}

-- a read of a register that is none of the model's
pub s_read : {f : Family} {r : ℕ} → IsFar (kind f r) → Sound f is_ok (read r)
s_read h = quietly (only_read h)

-- ---- with no access

module _ (port : Port) where
  abbrev f : Family
  f = port.family

  pub s_nvm : (word : ℕ) → Sound f is_ok (nvm_word port word)
  unfolding nvm_word
  s_nvm word =
      under (token_bracket port 0x401 refl) honest_plain
      (quietly (only_bind (q_post f _ (omega arith)) (λ _. only_bind (only_raw (far 0x1580c tt tt f)) (λ v. only_end))))

  pub s_clock : (fast : Bool) → Sound f is_ok (mdio_clock fast)
  s_clock fast = quietly (only_bind (only_read (far 0x4240 tt tt f)) (λ v. only_write (far 0x4240 tt tt f)))

  pub s_after_reset : Sound f is_ok (after_reset port)
  unfolding after_reset
  s_after_reset = picks (eqb port.device 0x15ad) (s_clock false) ends

  s_prepare_reset : (veto : Bool) (phy id sel : ℕ) (unstalled : Bool) → Sound f is_ok (prepare_reset port veto phy id sel unstalled)
  s_prepare_reset veto phy id sel unstalled = picks veto ends (bind (s_reset port phy true) (λ _. ends))

  s_found : (veto : Bool) (phy id sel : ℕ) → Sound f is_ok (prepare_found port veto phy id sel)
  s_found veto phy id sel =
      bind (s_read_reg port phy 1 0xcc02)
      (λ alarms. picks (is_clear alarms 3) (s_prepare_reset veto phy id sel false)
      (bind (s_modify port phy 0x1e 0xc479 _ _) (λ _. s_prepare_reset veto phy id sel true)))

  s_probed : (veto : Bool) (sel phy : ℕ) (id : Option ℕ) → Sound f is_ok (prepare_probed port veto sel phy id)
  s_probed veto sel phy None = ends
  s_probed veto sel phy (Some id) = s_found veto phy id sel

  s_scanned : (veto : Bool) (sel : ℕ) (s : Option (ℕ × ℕ)) → Sound f is_ok (prepare_scanned port veto sel s)
  s_scanned veto sel None = ends
  s_scanned veto sel (Some (phy, id)) = s_found veto phy id sel

  pub s_prepare_copper : (veto : Bool) → Sound f is_ok (prepare_copper port veto)
  unfolding prepare_copper
  s_prepare_copper veto =
      bind (s_clock false)
      (λ _. bind (s_read (far 0x11178 tt tt f))
      (λ sel. picks (eqb sel 0) (bind (s_scan port) (s_scanned veto sel)) (bind (s_probe port (sel / 2 ^ 3 % 32)) (s_probed veto sel (sel / 2 ^ 3 % 32)))))

  pub s_prepare : {A : Type 0} {after : Prepared → Call A} (veto : Bool) → ((p : Prepared) → Sound f is_ok (after p)) → Sound f is_ok (prepare_then port veto after)
  s_prepare veto h = picks (eqb port.device 0x15ad) (bind (s_prepare_copper veto) (λ x. h (copper x))) (h nothing)

  pub s_vetoed : {A : Type 0} {stopped free : Call A} (veto : Bool) → Sound f is_ok stopped → Sound f is_ok free → Sound f is_ok (vetoed veto stopped free)
  s_vetoed veto s h = picks veto s (bind (s_read (far 0x42d0 tt tt f)) (λ mmngc. picks (is_clear mmngc 1) h s))

-- ---- with accesses

module _ (port : Port) where
  pub s_kr_modify : (port0 keep set : ℕ) → krm port.lan port0 ≤ 0xffff → Sound port.family is_ok (kr_modify port.pause port port0 keep set)
  unfolding kr_modify
  s_kr_modify port0 keep set h =
      bind (reads_kr port (krm port.lan port0) h)
      (λ v. bind (writes_kr port (krm port.lan port0) (changed keep set v) h) (λ _. ends))

  -- of a register whose address the Rust names
  pub s_kr_named : (port0 keep set : ℕ) → port0 + 0x4000 ≤ 0xffff → Sound port.family is_ok (kr_modify port.pause port port0 keep set)
  s_kr_named port0 keep set h = s_kr_modify port0 keep set (on_lan port.lan port0 h)

  s_restart_lane : (lc1 : ℕ) (g : Family) → Sound port.family is_ok (restart_lane port.pause port lc1 g)
  s_restart_lane lc1 X552 = ends
  s_restart_lane lc1 X553 = bind (s_kr_named 0x5054 _ _ (omega arith)) (λ _. ends)

  pub s_restart : Sound port.family is_ok (restart_an port.pause port)
  unfolding restart_an
  s_restart = bind (s_kr_named 0x420c _ _ (omega arith)) (λ lc1. s_restart_lane lc1 port.family)

  s_autoneg_lane : (lc1 : ℕ) (g : Family) → Sound port.family is_ok (kr_autoneg_lane port.pause port lc1 g)
  s_autoneg_lane lc1 X552 = bind s_restart (λ _. ends)
  s_autoneg_lane lc1 X553 = bind (s_kr_named 0x5054 _ _ (omega arith)) (λ _. bind s_restart (λ _. ends))

  pub s_autoneg : (kr kx : Bool) → Sound port.family is_ok (kr_autoneg port.pause port kr kx)
  unfolding kr_autoneg
  s_autoneg kr kx = bind (s_kr_named 0x420c _ _ (omega arith)) (λ lc1. s_autoneg_lane lc1 port.family)

  pub s_ixfi : (ten_gig : Bool) → Sound port.family is_ok (ixfi port.pause port ten_gig)
  unfolding ixfi
  s_ixfi ten_gig =
      bind (s_kr_named 0x420c _ _ (omega arith))
      (λ lc1. bind (s_kr_named 0x4b00 _ _ (omega arith))
      (λ _. bind (s_kr_named 0x4634 _ _ (omega arith))
      (λ _. bind (s_kr_named 0x4638 _ _ (omega arith))
      (λ _. bind (s_kr_named 0x5520 _ _ (omega arith))
      (λ _. bind s_restart (λ _. ends))))))

  s_copper_advertise : (veto : Bool) (x : X557) (s : Speeds) → Sound port.family is_ok (copper_advertise port veto x s)
  s_copper_advertise veto x s = bind (s_advertise port x.phy s None veto) (λ restarted. ends)

  s_internal : (veto : Bool) (x : X557) (s : Speeds) (internal : Internal) → Sound port.family is_ok (copper_internal port.pause port veto x s internal)
  s_internal veto x s Kr = s_copper_advertise veto x s
  s_internal veto x s Ixfi =
      bind (s_ixfi s.g10)
      (λ _. by_turns (Sound port.family is_ok) (copper_turn port x.phy (copper_advertise port veto x s)) (copper_advertise port veto x s)
      (λ again g. waits (bind (s_read (far 0x42a4 tt tt port.family))
      (λ links. picks (is_clear links 0x40000000) g (bind (s_an_link port x.phy) (λ up. picks up (s_copper_advertise veto x s) g)))))
      (s_copper_advertise veto x s) 10)

  pub s_copper_link : (veto : Bool) (x : X557) → Sound port.family is_ok (copper_link port.pause port veto x)
  unfolding copper_link
  s_copper_link veto x = bind (s_abilities port x.phy) (λ s. s_internal veto x (without100 s) x.internal)

  s_setup_prepared : (veto : Bool) (p : Prepared) → Sound port.family is_ok (setup_prepared port.pause port veto p)
  s_setup_prepared veto (copper x) = bind (s_copper_link veto x) (λ s. ends)
  s_setup_prepared veto nothing = picks (eqb port.device 0x15ae) ends (picks (eqb port.device 0x15b0) ends ends)

  pub s_setup : (veto : Bool) (p : Prepared) → Sound port.family is_ok (setup port.pause port veto p)
  s_setup veto p =
      picks (eqb port.device 0x15ab) (s_vetoed port veto ends (bind (s_autoneg true true) (λ lc1. ends))) (s_setup_prepared veto p)

  -- ---- the Watch

  s_force : (reforced status megabits : ℕ) (internal : Internal) → Sound port.family is_ok (poll_force port.pause port reforced status megabits internal)
  s_force reforced status megabits Kr = bind (s_autoneg true true) (λ _. ends)
  s_force reforced status megabits Ixfi = bind (s_ixfi (eqb megabits 10000)) (λ _. ends)

  s_due : (phy : ℕ) (forced : Option ℕ) (reforced : ℕ) → Sound port.family is_ok (due port phy forced reforced)
  unfolding due
  s_due phy forced reforced =
      bind (s_an_link port phy)
      (λ up. picks up (bind (s_read_reg port phy 7 0xc800) (λ v. bind (s_an_link port phy) (λ up. ends))) ends)

  s_settle : (inside : Bool) (internal : Internal) (forced : Option ℕ) (reforced : ℕ) (d : Due)
      → Sound port.family is_ok (settle inside port.pause port internal forced reforced d)
  s_settle inside internal forced reforced (nothing_due p) = ends
  s_settle inside internal forced reforced (force status megabits) = picks inside ends (s_force reforced status megabits internal)

  pub s_poll : (inside : Bool) (phy : ℕ) (internal : Internal) (forced : Option ℕ) (reforced : ℕ)
      → Sound port.family is_ok (window_poll inside port.pause port phy internal forced reforced)
  unfolding window_poll
  s_poll inside phy internal forced reforced = bind (s_due phy forced reforced) (s_settle inside internal forced reforced)
