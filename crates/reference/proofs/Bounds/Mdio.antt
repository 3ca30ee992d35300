-- mdio.rs: actions and microseconds at the most
use Rattle.std.specs.Prelude.{Ok, Option, None, Some}
use Prim.Native.Nat.{ℕ, ◌+◌, ◌*◌}
use mathlib.Core.Bool.{Bool, ◌||◌}
use mathlib.Core.List.{List, [], ◌∷◌, ◌++◌}
use lib.ListN.{length}
use native.Mathlib.Omega.{arith}
use lib.Dec.{eqb}
use Rattle.hardware.specs.Bound.{Within, at_end}
use Rattle.hardware.specs.Talk.{Call, is_clear, return, fail}
use Rattle.hardware.specs.declared.Error.TheVariants.{Timeout}
use Rattle.hardware.specs.declared.Port.{Port}
use Rattle.hardware.proofs.Bounds.{within_more, within_pick, within_times}
use Rattle.words.specs.Mdio.{address}
use Rattle.answers.specs.declared.Speeds.{Speeds}
use Rattle.reference.specs.Sync.{plain, with_values}
use Rattle.reference.specs.Mdio.{cycle_turn, cycle, mask, read_body, read_reg, list_body, mdio_list, write_body, write_reg, modify, probe_high, probe, scan_found, scan_turn, scan, reset_last, reset_done, reset_turn, reset, abilities, advertise, an_link}
use Rattle.reference.proofs.Within.{of_read, of_raw, of_write, of_delay, of_end, of_bind, of_keep, of_lent, of_carry}
use Rattle.reference.proofs.Bounds.Acquire.{of_locked}

cycle_turn_lem : (f : ℕ → Call (Unit {0})) (n m : ℕ) → ((last : ℕ) → Within (f last) n m) → (last : ℕ) → Within (cycle_turn f last) (2 + n) (10 + m)
cycle_turn_lem f n m w _ =
    within_more (omega arith) (omega arith)
    (of_bind (of_delay 10) (λ _. of_bind (of_read 0x425c) (λ v. within_pick (is_clear v 0x40000000) (at_end {a = Ok tt}) (w v))))

of_cycle : (command : ℕ) → Within (cycle command) 201 1000
unfolding cycle
of_cycle command =
    of_bind (of_write 0x425c _)
    (λ _. of_carry cycle_turn (λ last. fail (Timeout 0x425c 0x40000000 0 last)) 2 10 100 0 0 cycle_turn_lem (λ last. at_end) 0)

read_body_lem : (a : ℕ) → Within (read_body a) 403 2000
read_body_lem a = of_bind (of_cycle a) (λ _. of_bind (of_cycle _) (λ _. of_bind (of_raw 0x4260) (λ v. of_end)))

write_body_lem : (a value : ℕ) → Within (write_body a value) 403 2000
write_body_lem a value = of_bind (of_write 0x4260 value) (λ _. of_bind (of_cycle a) (λ _. of_cycle _))

-- one access
pub of_read_reg : (port : Port) (phy dev reg : ℕ) → Within (read_reg port phy dev reg) 16150229502 411114906000
unfolding read_reg
of_read_reg port phy dev reg = of_locked plain port (mask port) (read_body_lem (address phy dev reg))

pub of_write_reg : (port : Port) (phy dev reg value : ℕ) → Within (write_reg port phy dev reg value) 16150229502 411114906000
unfolding write_reg
of_write_reg port phy dev reg value = of_locked plain port (mask port) (write_body_lem (address phy dev reg) value)

-- one hold for all of a list
list_body_lem : (phy : ℕ) (pairs : List (ℕ × ℕ)) (values : List ℕ) → Within (list_body phy pairs values) (403 * length pairs) (2000 * length pairs)
list_body_lem phy [] values = at_end
list_body_lem phy ((dev, reg) ∷ rest) values =
    within_more (omega arith) (omega arith)
    (of_lent (of_keep values (read_body_lem (address phy dev reg))) (λ v vs. list_body_lem phy rest (vs ++ v ∷ [])))

pub of_list : (port : Port) (phy : ℕ) (pairs : List (ℕ × ℕ))
    → Within (mdio_list port phy pairs) (16150229099 + 403 * length pairs) (411114904000 + 2000 * length pairs)
unfolding mdio_list
of_list port phy [] = at_end
of_list port phy (pair ∷ rest) =
    within_more (omega arith) (omega arith) (of_locked with_values port (mask port) (list_body_lem phy (pair ∷ rest) []))

-- two
pub of_modify : (port : Port) (phy dev reg keep set : ℕ) → Within (modify port phy dev reg keep set) 32300459004 822229812000
unfolding modify
of_modify port phy dev reg keep set = of_bind (of_read_reg port phy dev reg) (λ v. of_bind (of_write_reg port phy dev reg _) (λ _. of_end))

probe_high_lem : (port : Port) (phy high : ℕ) → Within (probe_high port phy high) 16150229502 411114906000
probe_high_lem port phy high = within_pick (eqb high 0 || eqb high 0xffff) at_end (of_bind (of_read_reg port phy 1 3) (λ low. of_end))

pub of_probe : (port : Port) (phy : ℕ) → Within (probe port phy) 32300459004 822229812000
unfolding probe
of_probe port phy = of_bind (of_read_reg port phy 1 2) (probe_high_lem port phy)

-- 64
scan_found_lem : (f : ℕ → Call (Option (ℕ × ℕ))) (n m : ℕ) → ((phy : ℕ) → Within (f phy) n m) → (phy : ℕ) (id : Option ℕ) → Within (scan_found f phy id) n m
scan_found_lem f n m w phy None = w (phy + 1)
scan_found_lem f n m w phy (Some id) = at_end

scan_turn_lem : (port : Port) (f : ℕ → Call (Option (ℕ × ℕ))) (n m : ℕ) → ((phy : ℕ) → Within (f phy) n m) → (phy : ℕ)
    → Within (scan_turn port f phy) (32300459004 + n) (822229812000 + m)
scan_turn_lem port f n m w phy = of_bind (of_probe port phy) (scan_found_lem f n m w phy)

pub of_scan : (port : Port) → Within (scan port) 1033614688128 26311353984000
unfolding scan
of_scan port =
    of_carry (scan_turn port) (λ _. return None) 32300459004 822229812000 32 0 0 (scan_turn_lem port) (λ _. at_end) 0

reset_last_lem : (port : Port) (phy : ℕ) → Within (reset_last port phy) 16150229502 411114906000
reset_last_lem port phy = of_bind (of_read_reg port phy 4 0) (λ v. within_pick (is_clear v 0x8000) of_end of_end)

reset_done_lem : (port : Port) (phy : ℕ) → Within (reset_done port phy) 16150229503 411114906002
reset_done_lem port phy = of_bind (of_delay 2) (λ _. reset_last_lem port phy)

reset_turn_lem : (port : Port) (phy : ℕ) (x557 : Bool) (t : Call (Unit {0})) (n m : ℕ) → Within t n m
    → Within (reset_turn port phy x557 t) (32300459006 + n) (822229912002 + m)
reset_turn_lem port phy x557 t n m w =
    within_more (omega arith) (omega arith)
    (of_bind (of_delay 100000)
    (λ _. within_pick x557
    (of_bind (of_read_reg port phy 1 0xcc02) (λ v. within_pick (is_clear v 3) more done))
    (of_bind (of_read_reg port phy 4 0) (λ v. within_pick (is_clear v 0x8000) done more))))
  where
    more : Within t (16150229503 + n) (411114906002 + m)
    more = within_more (omega arith) (omega arith) w

    done : Within (reset_done port phy) (16150229503 + n) (411114906002 + m)
    done = within_more (omega arith) (omega arith) (reset_done_lem port phy)

pub of_reset : (port : Port) (phy : ℕ) (x557 : Bool) → Within (reset port phy x557) 1001314229184 25489127172060
unfolding reset
of_reset port phy x557 =
    of_bind (of_write_reg port phy 4 0 0x8000)
    (λ _. within_times (reset_turn port phy x557) (reset_last port phy) 32300459006 822229912002 30 16150229502 411114906000
    (reset_turn_lem port phy x557) (reset_last_lem port phy))

pub of_abilities : (port : Port) (phy : ℕ) → Within (abilities port phy) 16150229502 411114906000
unfolding abilities
of_abilities port phy = of_bind (of_read_reg port phy 1 4) (λ v. of_end)

-- eight
pub of_advertise : (port : Port) (phy : ℕ) (s : Speeds) (nbase : Option Bool) (veto : Bool)
    → Within (advertise port phy s nbase veto) 129201836016 3288919248000
unfolding advertise
of_advertise port phy s nbase veto =
    of_bind (of_modify port phy 7 0x20 _ _)
    (λ _. of_bind (of_modify port phy 7 0xc400 _ _)
    (λ _. of_bind (of_modify port phy 7 0x10 _ _)
    (λ _. within_pick veto at_end (of_bind (of_modify port phy 7 0 0xffff 0x200) (λ _. of_end)))))

pub of_an_link : (port : Port) (phy : ℕ) → Within (an_link port phy) 32300459004 822229812000
unfolding an_link
of_an_link port phy = of_bind (of_read_reg port phy 7 1) (λ _. of_bind (of_read_reg port phy 7 1) (λ v. of_end))
