-- What is known of a call that is not turned away
use Rattle.std.specs.Prelude.{Ok, Err}
use Prim.Native.Nat.{ℕ, ◌≤◌}
use mathlib.Core.Path.{◌≡◌, refl}
use mathlib.Core.Bool.{Bool, true, false, ◌||◌}
use native.Mathlib.Omega.{arith}
use borrow.Author.Tests.{ltb-false}
use Rattle.std.proofs.lemmas.Bool.{or_parts}
use lib.Dec.{eqb, ltb}
use Rattle.hardware.specs.Talk.{Res, pick}
use Rattle.hardware.specs.Refusal.{is_fiber, refusal}
use Rattle.hardware.specs.declared.Request.{Request}
use Rattle.hardware.specs.declared.Error.{Error}
use Rattle.hardware.specs.declared.Error.TheVariants.{Lan, Fiber, Address, KrAddress, Pairs, Block, Pause, Windows}

pub record Taken (r : Request) : Type 0 where
  pub lan : r.port.lan ≤ 1
  pub fiber : is_fiber r.port ≡ false
  pub phy : r.phy ≤ 31
  pub device : r.device ≤ 31
  pub outside : r.outside ≡ false
  pub kr : r.kr ≤ 0xffff
  pub selected : r.selected ≤ 0xffff
  pub pairs : r.pairs ≤ 64
  pub words : r.words ≤ 448
  pub pause : r.port.pause ≤ 100
  pub windows : r.bad_windows ≡ false

not_both : {A : Type 0} {e : Error} {u : Unit {0}} → ◌≡◌ {A = Res (Unit {0})} (Err e) (Ok u) → A
not_both h = let z : ◌≡◌ {A = ℕ} 0 1 = cc in absurd (omega arith)

-- one test that is passed, and the rest
passed : (b : Bool) (e : Error) {rest : Res (Unit {0})} → pick b (Err e) rest ≡ Ok tt → (b ≡ false) × (rest ≡ Ok tt)
passed true e h = not_both h
passed false e h = (refl, h)

pub taken : (r : Request) → refusal r ≡ Ok tt → Taken r
unfolding refusal
taken r h =
    let lan = passed (ltb 1 r.port.lan) Lan h in
    let fiber = passed (is_fiber r.port) Fiber lan.1 in
    let mdio = passed (ltb 31 r.phy || ltb 31 r.device || r.outside) Address fiber.1 in
    let kr = passed (ltb 0xffff r.kr || ltb 0xffff r.selected) KrAddress mdio.1 in
    let list = passed (ltb 64 r.pairs) Pairs kr.1 in
    let block = passed (ltb 448 r.words) Block list.1 in
    let paused = passed (eqb r.port.pause 0 || ltb 100 r.port.pause) Pause block.1 in
    let pause = or_parts (eqb r.port.pause 0) (ltb 100 r.port.pause) paused.0 in
    let windows = passed r.bad_windows Windows paused.1 in
    let pairs = or_parts (ltb 31 r.phy || ltb 31 r.device) r.outside mdio.0 in
    let addresses = or_parts (ltb 31 r.phy) (ltb 31 r.device) pairs.0 in
    let registers = or_parts (ltb 0xffff r.kr) (ltb 0xffff r.selected) kr.0 in
    record {
      lan = ltb-false _ _ lan.0;
      fiber = fiber.0;
      phy = ltb-false _ _ addresses.0;
      device = ltb-false _ _ addresses.1;
      outside = pairs.1;
      kr = ltb-false _ _ registers.0;
      selected = ltb-false _ _ registers.1;
      pairs = ltb-false _ _ list.0;
      words = ltb-false _ _ block.0;
      pause = ltb-false _ _ pause.1;
      windows = windows.0;
    }
