-- mdio.rs has no sideband wait
use Rattle.std.specs.Prelude.{Ok, Option, None, Some}
use Prim.Native.Nat.{ℕ, ◌+◌}
use mathlib.Core.Path.{refl}
use mathlib.Core.Bool.{Bool, ◌||◌}
use mathlib.Core.List.{List, [], ◌∷◌, ◌++◌}
use lib.Dec.{eqb}
use Rattle.hardware.specs.Talk.{Call, is_clear, return, fail}
use Rattle.hardware.specs.declared.Error.TheVariants.{Timeout}
use Rattle.hardware.specs.declared.Port.{Port}
use Rattle.words.specs.Mdio.{address}
use Rattle.answers.specs.declared.Speeds.{Speeds}
use Rattle.reference.specs.Sync.{plain, with_values}
use Rattle.reference.specs.Mdio.{cycle_turn, cycle, mask, read_body, read_reg, list_body, mdio_list, write_reg, modify, probe_high, probe, scan_found, scan_turn, scan, reset_last, reset_done, reset_turn, reset, abilities, advertise, an_link}
use Rattle.hardware.proofs.Laws.{by_turns}
use Rattle.reference.proofs.Alike.{Still, begins, ends, bind, keeps, lends, picks, reads, raws, writes, waits}
use Rattle.reference.proofs.Pauses.Acquire.{of_locked}

module _ {p q : ℕ} where
  of_cycle : (command : ℕ) → Still p q (cycle command)
  unfolding cycle
  of_cycle command =
      bind writes
      (λ _. by_turns (λ g. (last : ℕ) → Still p q (g last)) cycle_turn (λ last. fail (Timeout 0x425c 0x40000000 0 last))
      (λ again w last. bind waits (λ _. bind (reads {reg = 0x425c} refl) (λ v. picks (is_clear v 0x40000000) (ends {a = Ok tt}) (w v)))) (λ last. ends) 100 0)

module _ {p q : ℕ} (port : Port) where
  of_body : (a : ℕ) → Still p q (read_body a)
  of_body a = bind (of_cycle a) (λ _. bind (of_cycle _) (λ _. bind (raws refl) (λ v. ends)))

  pub of_read_reg : (phy dev reg : ℕ) → Still p q (read_reg port phy dev reg)
  unfolding read_reg
  of_read_reg phy dev reg = of_locked plain port (mask port) (of_body (address phy dev reg))

  of_list_body : (phy : ℕ) (pairs : List (ℕ × ℕ)) (values : List ℕ) → Still p q (list_body phy pairs values)
  of_list_body phy [] values = ends
  of_list_body phy ((dev, reg) ∷ rest) values =
      lends (keeps values (of_body (address phy dev reg))) (λ c e v vs. begins e (of_list_body phy rest (vs ++ v ∷ [])))

  pub of_list : (phy : ℕ) (pairs : List (ℕ × ℕ)) → Still p q (mdio_list port phy pairs)
  unfolding mdio_list
  of_list phy [] = ends
  of_list phy (pair ∷ rest) = of_locked with_values port (mask port) (of_list_body phy (pair ∷ rest) [])

  pub of_write_reg : (phy dev reg value : ℕ) → Still p q (write_reg port phy dev reg value)
  unfolding write_reg
  of_write_reg phy dev reg value =
      of_locked plain port (mask port) (bind writes (λ _. bind (of_cycle (address phy dev reg)) (λ _. of_cycle _)))

  pub of_modify : (phy dev reg keep set : ℕ) → Still p q (modify port phy dev reg keep set)
  unfolding modify
  of_modify phy dev reg keep set = bind (of_read_reg phy dev reg) (λ v. bind (of_write_reg phy dev reg _) (λ _. ends))

  probe_high_lem : (phy high : ℕ) → Still p q (probe_high port phy high)
  probe_high_lem phy high = picks (eqb high 0 || eqb high 0xffff) ends (bind (of_read_reg phy 1 3) (λ low. ends))

  pub of_probe : (phy : ℕ) → Still p q (probe port phy)
  unfolding probe
  of_probe phy = bind (of_read_reg phy 1 2) (probe_high_lem phy)

  pub of_scan : Still p q (scan port)
  unfolding scan
  of_scan =
      by_turns (λ g. (phy : ℕ) → Still p q (g phy)) (scan_turn port) (λ _. return None) (λ again w phy. bind (of_probe phy) (found again w phy))
      (λ _. ends) 32 0
    where
      found : (again : ℕ → Call (Option (ℕ × ℕ))) → ((phy : ℕ) → Still p q (again phy)) → (phy : ℕ) (id : Option ℕ)
          → Still p q (scan_found again phy id)
      found again w phy None = w (phy + 1)
      found again w phy (Some id) = ends

  reset_last_lem : (phy : ℕ) → Still p q (reset_last port phy)
  reset_last_lem phy = bind (of_read_reg phy 4 0) (λ v. picks (is_clear v 0x8000) ends ends)

  reset_done_lem : (phy : ℕ) → Still p q (reset_done port phy)
  reset_done_lem phy = bind waits (λ _. reset_last_lem phy)

  pub of_reset : (phy : ℕ) (x557 : Bool) → Still p q (reset port phy x557)
  unfolding reset
  of_reset phy x557 =
      bind (of_write_reg phy 4 0 0x8000)
      (λ _. by_turns (λ t. Still p q t) (reset_turn port phy x557) (reset_last port phy)
      (λ t w. bind waits
      (λ _. picks x557
      (bind (of_read_reg phy 1 0xcc02) (λ v. picks (is_clear v 3) w (reset_done_lem phy)))
      (bind (of_read_reg phy 4 0) (λ v. picks (is_clear v 0x8000) (reset_done_lem phy) w)))) (reset_last_lem phy) 30)

  pub of_abilities : (phy : ℕ) → Still p q (abilities port phy)
  unfolding abilities
  of_abilities phy = bind (of_read_reg phy 1 4) (λ v. ends)

  pub of_advertise : (phy : ℕ) (s : Speeds) (nbase : Option Bool) (veto : Bool) → Still p q (advertise port phy s nbase veto)
  unfolding advertise
  of_advertise phy s nbase veto =
      bind (of_modify phy 7 0x20 _ _)
      (λ _. bind (of_modify phy 7 0xc400 _ _)
      (λ _. bind (of_modify phy 7 0x10 _ _)
      (λ _. picks veto ends (bind (of_modify phy 7 0 0xffff 0x200) (λ _. ends)))))

  pub of_an_link : (phy : ℕ) → Still p q (an_link port phy)
  unfolding an_link
  of_an_link phy = bind (of_read_reg phy 7 1) (λ _. bind (of_read_reg phy 7 1) (λ v. ends))
