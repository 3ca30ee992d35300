-- mdio.rs keeps the rules
use Rattle.std.specs.Prelude.{None, Option, Some, Ok, Err}
use mathlib.Core.List.{List, [], ◌∷◌, ◌++◌}
use Rattle.hardware.specs.Block as blk
use Rattle.hardware.specs.Talk.{Call, Res, pick, is_clear, fail, return}
use Prim.Native.Nat.{ℕ, ◌+◌}
use mathlib.Core.Path.{◌≡◌, refl}
use mathlib.Core.Bool.{Bool, true, false, ◌||◌}
use lib.Bits.{bit_or}
use lib.Dec.{eqb}
use Rattle.hardware.specs.declared.Error.TheVariants.{Timeout}
use Rattle.hardware.specs.declared.Family.{Family}
use Rattle.hardware.specs.declared.Family.TheVariants.{X552, X553}
use Rattle.hardware.specs.declared.Port.{Port}
use Rattle.answers.specs.declared.Speeds.{Speeds}
use Rattle.reference.specs.Acquire.{hw_of, locked}
use Rattle.reference.specs.Mdio.{
  read_body,
  cycle_turn,
  cycle,
  token_of,
  mask,
  read_body,
  read_reg,
  list_body,
  mdio_list,
  write_reg,
  modify,
  changed,
  probe,
  scan_found,
  scan_turn,
  scan,
  reset_last,
  reset_poll,
  reset_turn,
  reset,
  abilities,
  advertise,
  an_link,
}
use Rattle.reference.specs.Sync.{plain}
use Rattle.mixing.specs.Only.{only_end, only_ask}
use Rattle.mixing.specs.Events.{is_ok}
use Rattle.hardware.proofs.Laws.{by_turns}
use Rattle.mixing.proofs.Only.{far, Quiet, only_then, only_bind, only_pick, only_read, only_raw, only_write}
use Rattle.mixing.proofs.Sound.{Sound, well_block, quietly, ends, picks, waits, bind, under, honest_plain, honest_values}
use Rattle.mixing.proofs.Token.{token_bracket}

-- the mask has a PHY bit
phy_bit : (b : Bool) (f : Family) → eqb (hw_of (bit_or (pick b 4 2) (token_of f))) 0 ≡ false
phy_bit true X552 = refl
phy_bit true X553 = refl
phy_bit false X552 = refl
phy_bit false X553 = refl

has_bits : (port : Port) → eqb (hw_of (mask port)) 0 ≡ false
unfolding mask
has_bits port = phy_bit (eqb port.lan 1) port.family

q_cycle : (f : Family) (command : ℕ) → Quiet f (cycle command)
unfolding cycle
q_cycle f command =
    only_bind (only_write (far 0x425c tt tt f))
    (λ _. by_turns (λ g. (last : ℕ) → Quiet f (g last)) cycle_turn (λ last. fail (Timeout 0x425c 0x40000000 0 last))
    (λ again g _. only_ask tt (λ _. only_bind (only_read (far 0x425c tt tt f)) (λ v. only_pick (is_clear v 0x40000000) only_end (g v))))
    (λ last. only_end) 100 0)

pub q_read_body : (f : Family) (a : ℕ) → Quiet f (read_body a)
q_read_body f a = only_bind (q_cycle f _) (λ _. only_bind (q_cycle f _) (λ _. only_bind (only_raw (far 0x4260 tt tt f)) (λ v. only_end)))

module _ (port : Port) where
  abbrev f : Family
  f = port.family

  held : {A : Type 0} {body : Call A} → Quiet port.family body → Sound port.family is_ok (locked plain port (mask port) body)
  held q = under (token_bracket port (mask port) (has_bits port)) honest_plain (quietly q)

  pub s_read_reg : (phy dev reg : ℕ) → Sound f is_ok (read_reg port phy dev reg)
  unfolding read_reg
  s_read_reg phy dev reg = held (q_read_body f _)

  -- pair by pair
  q_list : (phy : ℕ) (pairs : List (ℕ × ℕ)) (values : List ℕ) → Quiet f (list_body phy pairs values)
  q_list phy [] values = only_end
  q_list phy ((dev, reg) ∷ rest) values = only_then (only_then (q_read_body f _) (λ r. only_end)) (λ p. go (λ vs. q_list phy rest vs) p.0 p.1)
    where
      go : ((vs : List ℕ) → Quiet f (list_body phy rest vs)) → (r : Res ℕ) (vs : List ℕ) → Quiet f (blk.or_stop (λ v vs. list_body phy rest (vs ++ v ∷ [])) r vs)
      go q (Ok v) vs = q (vs ++ v ∷ [])
      go q (Err e) vs = only_end

  pub s_list : (phy : ℕ) (pairs : List (ℕ × ℕ)) → Sound f well_block (mdio_list port phy pairs)
  unfolding mdio_list
  s_list phy [] = ends
  s_list phy (pair ∷ rest) = under (token_bracket port (mask port) (has_bits port)) honest_values (quietly (q_list phy (pair ∷ rest) []))

  pub s_write_reg : (phy dev reg value : ℕ) → Sound f is_ok (write_reg port phy dev reg value)
  unfolding write_reg
  s_write_reg phy dev reg value = held (only_bind (only_write (far 0x4260 tt tt f)) (λ _. only_bind (q_cycle f _) (λ _. q_cycle f _)))

  pub s_modify : (phy dev reg keep set : ℕ) → Sound f is_ok (modify port phy dev reg keep set)
  unfolding modify
  s_modify phy dev reg keep set = bind (s_read_reg phy dev reg) (λ v. bind (s_write_reg phy dev reg (changed keep set v)) (λ _. ends))

  pub s_probe : (phy : ℕ) → Sound f is_ok (probe port phy)
  unfolding probe
  s_probe phy = bind (s_read_reg phy 1 2) (λ high. picks (eqb high 0 || eqb high 0xffff) ends (bind (s_read_reg phy 1 3) (λ low. ends)))

  pub s_scan : Sound f is_ok (scan port)
  unfolding scan
  s_scan =
      by_turns (λ g. (phy : ℕ) → Sound f is_ok (g phy)) (scan_turn port) (λ _. return None)
      (λ again g phy. bind (s_probe phy) (found again g phy)) (λ _. ends) 32 0
    where
      found : (again : ℕ → Call (Option (ℕ × ℕ))) → ((phy : ℕ) → Sound f is_ok (again phy)) → (phy : ℕ) (id : Option ℕ) → Sound f is_ok (scan_found again phy id)
      found again g phy None = g (phy + 1)
      found again g phy (Some id) = ends

  s_last : (phy : ℕ) → Sound f is_ok (reset_last port phy)
  s_last phy = bind (s_read_reg phy 4 0) (λ v. picks (is_clear v 0x8000) ends ends)

  s_poll : (phy : ℕ) (x557 : Bool) {again : Call (Unit {0})} → Sound f is_ok again → Sound f is_ok (reset_poll port phy x557 again)
  s_poll phy x557 g =
      picks x557 (bind (s_read_reg phy 1 0xcc02) (λ v. picks (is_clear v 3) g (waits (s_last phy))))
      (bind (s_read_reg phy 4 0) (λ v. picks (is_clear v 0x8000) (waits (s_last phy)) g))

  pub s_reset : (phy : ℕ) (x557 : Bool) → Sound f is_ok (reset port phy x557)
  unfolding reset
  s_reset phy x557 =
      bind (s_write_reg phy 4 0 0x8000)
      (λ _. by_turns (Sound f is_ok) (reset_turn port phy x557) (reset_last port phy) (λ again g. waits (s_poll phy x557 g)) (s_last phy) 30)

  pub s_abilities : (phy : ℕ) → Sound f is_ok (abilities port phy)
  unfolding abilities
  s_abilities phy = bind (s_read_reg phy 1 4) (λ v. ends)

  pub s_advertise : (phy : ℕ) (s : Speeds) (nbase : Option Bool) (veto : Bool) → Sound f is_ok (advertise port phy s nbase veto)
  unfolding advertise
  s_advertise phy s nbase veto =
      bind (s_modify phy 7 0x20 _ _)
      (λ _. bind (s_modify phy 7 0xc400 _ _)
      (λ _. bind (s_modify phy 7 0x10 _ _)
      (λ _. picks veto ends (bind (s_modify phy 7 0 0xffff 0x200) (λ _. ends)))))

  pub s_an_link : (phy : ℕ) → Sound f is_ok (an_link port phy)
  unfolding an_link
  s_an_link phy = bind (s_read_reg phy 7 1) (λ _. bind (s_read_reg phy 7 1) (λ v. ends))
