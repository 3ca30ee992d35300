-- What `begin` turns away: 20, 21, 22, 35, 31, 23, 32, 40, in this order
use Rattle.std.specs.Prelude.{ℕ, Bool, ◌||◌, eqb, ltb, Ok, Err}
use Rattle.hardware.specs.Talk.{Res, pick}
use Rattle.hardware.specs.declared.Family.{Family}
use Rattle.hardware.specs.declared.Family.TheVariants.{X552, X553}
use Rattle.hardware.specs.declared.Port.{Port}
use Rattle.hardware.specs.declared.Request.{Request}
use Rattle.hardware.specs.declared.Error.TheVariants.{Lan, Fiber, Address, KrAddress, Pairs, Block, Pause, Windows}

abbrev pub fiber_at : Family → ℕ → Bool
fiber_at X552 device = eqb device 0x15ac
fiber_at X553 device = eqb device 0x15c4 || eqb device 0x15ce

-- a device id that is fiber in its own family
abbrev pub is_fiber : Port → Bool
is_fiber port = fiber_at port.family port.device

unfoldable pub refusal : Request → Res (Unit {0})
refusal r =
    pick (ltb 1 r.port.lan) (Err Lan)
    (pick (is_fiber r.port) (Err Fiber)
    (pick (ltb 31 r.phy || ltb 31 r.device || r.outside) (Err Address)
    (pick (ltb 0xffff r.kr || ltb 0xffff r.selected) (Err KrAddress)
    (pick (ltb 64 r.pairs) (Err Pairs)
    (pick (ltb 448 r.words) (Err Block)
    (pick (eqb r.port.pause 0 || ltb 100 r.port.pause) (Err Pause)
    (pick r.bad_windows (Err Windows)
    (Ok tt))))))))
