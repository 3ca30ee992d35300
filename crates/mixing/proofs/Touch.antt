-- What an action does to the KR registers, and what it puts on record
use Rattle.hardware.specs.Talk.{pick, Reply}
use Prim.Native.Nat.{ℕ, ◌^◌}
use mathlib.Core.Path.{◌≡◌, refl, sym, ap, ap₂, ◌∙◌}
use mathlib.Core.Bool.{Bool, true, false}
use mathlib.Core.List.{List}
use Rattle.std.specs.Prelude.{Option, None, Some}
use Rattle.std.proofs.lemmas.Option.{none-some}
use lib.Dec.{eqb}
use lib.Bits.{bit_or}
use Rattle.hardware.specs.Bits.{bit}
use Rattle.hardware.specs.declared.Action.{Action}
use Rattle.hardware.specs.declared.Action.TheVariants as action
use Rattle.hardware.specs.declared.Family.{Family}
use Rattle.mixing.specs.Mixing.{table, Right}
use Rattle.mixing.specs.Model.{Side, Chip, Kind, is_swsm, is_sync, is_ctrl, is_data, is_other, kind, put, World, do_read, do_write, do_action}
use Rattle.mixing.specs.Events.{Touch, got, wrote, if_data, touch, if_ctrl, own_then, word}
use Rattle.mixing.specs.System.{Access, reads, writes, NotIosf, Outside, Entry, log_then}
use Rattle.mixing.proofs.Loc.{sel_read, sel_write, sel_next, TouchRead, TouchWrite, OwnRead, OwnWrite, Own}
use Rattle.mixing.proofs.Share.{Sees, some_inj}
use Rattle.mixing.proofs.Wp.{View, stores, next, next_read, next_write}

pub none_is : {A : Type 0} (a : ℕ) → ◌≡◌ {A = Option ℕ} None (Some a) → A
none_is a e = absurd (none-some a e)

pub put_eq : (a a' v v' : ℕ) (s t : ℕ → ℕ) → a ≡ a' → v ≡ v' → ((b : ℕ) → s b ≡ t b) → (b : ℕ) → put a v s b ≡ put a' v' t b
put_eq a a' v v' s t p q h b = ap₂ (λ x y. pick (eqb x b) y (s b)) p q ∙ ap (λ z. pick (eqb a' b) v' z) (h b)

module _ (t₀ : ℕ → ℕ) where
  pub record Touches (x : Access) (s : Option ℕ) (l : List Entry) (t : Option Touch) (c : Chip) : Type 0 where
    pub right : Right t₀ (log_then x t s l)
    pub kr : (a : ℕ) → c.kr a ≡ table t₀ (log_then x t s l) a

  module _ (p : Side) (w : World) (c : Chip) (W : View) (own : ℕ) (s sel : Option ℕ) (l : List Entry)
      (pk : (a : ℕ) → W.sel ≡ Some a → own ≡ a) (sm : (a : ℕ) → sel ≡ Some a → W.sel ≡ Some a) (se : Sees p c W)
      (kr : (a : ℕ) → c.kr a ≡ table t₀ l a) (rt : Right t₀ l) where
    quiet : (x : Access) → Touches x s l None c
    quiet x = record { right = rt; kr = kr }

    touch_read : (x : Access) → TouchRead x sel s → Touches x s l (Some (got own (c.kr c.selected))) c
    unfolding Right table
    touch_read (reads who a) n = record { right = (n.1, (pk a (sm a n.0), ap c.kr (se.sel a (sm a n.0)) ∙ kr a), rt); kr = kr }
    touch_read (writes who a v) n = absurd n

    touch_write : (x : Access) (v : ℕ) → TouchWrite x sel s v → Touches x s l (Some (wrote own v)) (do_write p w c v is_data).chip
    unfolding Right table
    touch_write (reads who a) v n = absurd n
    touch_write (writes who a u) v n = record {
      right = (n.1, (pk a (sm a n.0), sym n.2), rt);
      kr = put_eq c.selected a v u c.kr (table t₀ l) (se.sel a (sm a n.0)) (sym n.2) kr;
    }

    touch_read_kind : (x : Access) (kd : Kind) → OwnRead x sel s kd → Touches x s l (if_data kd (got own (word (do_read p w c kd).reply))) (do_read p w c kd).chip
    touch_read_kind x is_swsm n = record { right = rt; kr = kr }
    touch_read_kind x is_sync n = record { right = rt; kr = kr }
    touch_read_kind x is_ctrl n = quiet x
    touch_read_kind x is_data n = touch_read x n
    touch_read_kind x is_other n = quiet x

    touch_write_kind : (x : Access) (v : ℕ) (kd : Kind) → OwnWrite x sel s v kd → Touches x s l (if_data kd (wrote own v)) (do_write p w c v kd).chip
    touch_write_kind x v is_swsm n = record { right = rt; kr = kr }
    touch_write_kind x v is_sync n = record { right = rt; kr = kr }
    touch_write_kind x v is_ctrl n = record { right = rt; kr = kr }
    touch_write_kind x v is_data n = touch_write x v n
    touch_write_kind x v is_other n = quiet x

    pub touch_ok : (f : Family) (x : Access) (a : Action) → Own f x sel s a → Touches x s l (touch f own a (do_action f p w c a).reply) (do_action f p w c a).chip
    touch_ok f x (action.Read r) n = touch_read_kind x (kind f r) n
    touch_ok f x (action.Write r v) n = touch_write_kind x v (kind f r) n
    touch_ok f x (action.Wait i) n = quiet x

-- what an access has selected, the port knows
sel_read_lem : (W : View) (sel : Option ℕ) (kd : Kind) (v a : ℕ) → (sel ≡ Some a → W.sel ≡ Some a) → sel_read kd sel ≡ Some a → (next_read W kd v).sel ≡ Some a
sel_read_lem W sel is_swsm v a h e = h e
sel_read_lem W sel is_sync v a h e = none_is a e
sel_read_lem W sel is_ctrl v a h e = h e
sel_read_lem W sel is_data v a h e = h e
sel_read_lem W sel is_other v a h e = h e

sel_write_lem : (W : View) (sel : Option ℕ) (kd : Kind) (w a : ℕ) → (sel ≡ Some a → W.sel ≡ Some a) → sel_write kd w sel ≡ Some a → (next_write W w kd).sel ≡ Some a
sel_write_lem W sel is_swsm w a h e = h e
sel_write_lem W sel is_sync w a h e = none_is a e
sel_write_lem W sel is_ctrl w a h e = e
sel_write_lem W sel is_data w a h e = h e
sel_write_lem W sel is_other w a h e = h e

pub sel_next_lem : (f : Family) (W : View) (sel : Option ℕ) (x : Action) (r : Reply) (a : ℕ) → (sel ≡ Some a → W.sel ≡ Some a)
    → sel_next f x sel ≡ Some a → (next f W x r).sel ≡ Some a
sel_next_lem f W sel (action.Read g) r a h e = sel_read_lem W sel (kind f g) (word r) a h e
sel_next_lem f W sel (action.Write g w) r a h e = sel_write_lem W sel (kind f g) w a h e
sel_next_lem f W sel (action.Wait n) r a h e = h e

-- what a port knows that it has selected, it last wrote to CTRL
picked_sync : (own v : ℕ) (W : View) (a : ℕ) → (b : Bool) → (W.sel ≡ Some a → own ≡ a) → (pick b W (stores v (bit_or v (2 ^ 31)) W)).sel ≡ Some a → own ≡ a
picked_sync own v W a true h e = h e
picked_sync own v W a false h e = none_is a e

picked_read : (own : ℕ) (W : View) (kd : Kind) (v a : ℕ) → (W.sel ≡ Some a → own ≡ a) → (next_read W kd v).sel ≡ Some a → own ≡ a
picked_read own W is_swsm v a h e = h e
picked_read own W is_sync v a h e = picked_sync own v W a (bit 31 v) h e
picked_read own W is_ctrl v a h e = h e
picked_read own W is_data v a h e = h e
picked_read own W is_other v a h e = h e

picked_write : (own : ℕ) (W : View) (kd : Kind) (w a : ℕ) → (W.sel ≡ Some a → own ≡ a) → (next_write W w kd).sel ≡ Some a → if_ctrl kd w own ≡ a
picked_write own W is_swsm w a h e = h e
picked_write own W is_sync w a h e = none_is a e
picked_write own W is_ctrl w a h e = some_inj w a e
picked_write own W is_data w a h e = h e
picked_write own W is_other w a h e = h e

pub picked_next : (f : Family) (own : ℕ) (W : View) (x : Action) (r : Reply) (a : ℕ) → (W.sel ≡ Some a → own ≡ a)
    → (next f W x r).sel ≡ Some a → own_then f x own ≡ a
picked_next f own W (action.Read g) r a h e = picked_read own W (kind f g) (word r) a h e
picked_next f own W (action.Write g w) r a h e = picked_write own W (kind f g) w a h e
picked_next f own W (action.Wait n) r a h e = h e

-- outside an access the KR registers stay
out_read : (p : Side) (w : World) (c : Chip) (kd : Kind) → NotIosf kd → (b : ℕ) → (do_read p w c kd).chip.kr b ≡ c.kr b
out_read p w c is_swsm n b = refl
out_read p w c is_sync n b = refl
out_read p w c is_ctrl n b = refl
out_read p w c is_data n b = refl
out_read p w c is_other n b = refl

out_write : (p : Side) (w : World) (c : Chip) (v : ℕ) (kd : Kind) → NotIosf kd → (b : ℕ) → (do_write p w c v kd).chip.kr b ≡ c.kr b
out_write p w c v is_swsm n b = refl
out_write p w c v is_sync n b = refl
out_write p w c v is_ctrl n b = refl
out_write p w c v is_data n b = absurd n
out_write p w c v is_other n b = refl

pub out_kr : (f : Family) (p : Side) (w : World) (c : Chip) (a : Action) → Outside f a → (b : ℕ) → (do_action f p w c a).chip.kr b ≡ c.kr b
out_kr f p w c (action.Read r) n b = out_read p w c (kind f r) n b
out_kr f p w c (action.Write r v) n b = out_write p w c v (kind f r) n b
out_kr f p w c (action.Wait i) n b = refl
