-- Two ports on one chip, and every list of events
use Rattle.hardware.specs.Talk.{Talk, end, ask, and_then, Res, Reply}
use Rattle.std.specs.Prelude.{ℕ, ◌≡◌, Bool, List, [], ◌∷◌, Option, None, Some}
use Rattle.hardware.specs.declared.Action.{Action}
use Rattle.hardware.specs.declared.Family.{Family}
use Rattle.hardware.specs.declared.Port.{Port}
use Rattle.reference.specs.Out.{Out}
use Rattle.reference.specs.X552.{kr_read, kr_write}
use Rattle.mixing.specs.Events.{Touch, got, wrote, is_ok, ends_well, touch, own_then, change, Event, begin, act, firm}
use Rattle.mixing.specs.Model.{Side, Kind, is_swsm, is_sync, is_ctrl, is_data, is_other, On, World, do_action, do_firmware, Chip}

-- who makes an access: its sideband's wait, device id and lan
pub record Caller : Type 0 where
  pub pause : ℕ
  pub device : ℕ
  pub lan : ℕ

abbrev pub port_of : Family → Caller → Port
port_of f who = record { family = f; device = who.device; lan = who.lan; pause = who.pause }

-- an access: one kr_read or kr_write, with the address and the word that the Rust hands it
pub data Access : Type 0 where
  reads : Caller → (address : ℕ) → Access
  writes : Caller → (address word : ℕ) → Access

-- what it gives
abbrev pub Given : Access → Type 0
Given (reads who a) = ℕ
Given (writes who a w) = Unit {0}

abbrev pub access_talk : Family → (x : Access) → Talk (Res (Given x))
access_talk f (reads who a) = kr_read who.pause (port_of f who) a
access_talk f (writes who a w) = kr_write who.pause (port_of f who) a w

-- neither CTRL nor DATA
abbrev pub NotIosf : Kind → Type 0
NotIosf is_swsm = Unit {0}
NotIosf is_sync = Unit {0}
NotIosf is_ctrl = ⊥
NotIosf is_data = ⊥
NotIosf is_other = Unit {0}

abbrev pub Outside : Family → Action → Type 0
Outside f a = On NotIosf f a

-- a conversation taken apart into accesses and actions outside accesses
pub data Made {A : Type 0} (f : Family) : Talk A → Type 0 where
  done : (a : A) → Made f (end a)
  other : {a : Action} {c : Reply → Talk A} → Outside f a → ((r : Reply) → Made f (c r)) → Made f (ask a c)
  access : {t : Talk A} (x : Access) (k : Res (Given x) → Talk A) → t ≡ and_then (access_talk f x) k → ((r : Res (Given x)) → Made f (k r)) → Made f t

-- A port. It has no operation running; `well`: all its operations were refused or ended well. Or its next action is one
-- outside accesses. Or it is in an access, with the word that this access read from DATA or wrote to it, if it did so yet
pub data State (f : Family) : Type 0 where
  idle : (well : Bool) → State f
  out : (well : Bool) (a : Action) (c : Reply → Talk Out) → Outside f a → ((r : Reply) → Made f (c r)) → State f
  inside : (well : Bool) (x : Access) (seen : Option ℕ) (a : Action) (c : Reply → Talk (Res (Given x))) (k : Res (Given x) → Talk Out)
      → ((r : Res (Given x)) → Made f (k r)) → State f

-- What is put on record, the last first: a touch of DATA, with its access and the word of this access's touch before, if it
-- had one; and the end of an access, with what it saw and what it gave
pub data Entry : Type 0 where
  touched : Access → (seen : Option ℕ) → Touch → Entry
  gave : (x : Access) → (seen : Option ℕ) → Res (Given x) → Entry

pub record Next (f : Family) : Type 0 where
  pub state : State f
  pub log : List Entry

-- in an access: on to its next action, or to what comes after it
abbrev pub resume : (f : Family) (well : Bool) (x : Access) (seen : Option ℕ) → Talk (Res (Given x)) → (k : Res (Given x) → Talk Out)
    → ((r : Res (Given x)) → Made f (k r)) → (Res (Given x) → List Entry → Next f) → List Entry → Next f
resume f well x seen (end r) k m go l = go r (gave x seen r ∷ l)
resume f well x seen (ask a c) k m go l = record { state = inside well x seen a c k m; log = l }

-- on to the next action, or to the end
unfoldable pub settle : (f : Family) (well : Bool) {t : Talk Out} → Made f t → List Entry → Next f
settle f well (done a) l = record { state = idle (ends_well (is_ok a.0) well); log = l }
settle f well (other {a} {c} o m) l = record { state = out well a c o m; log = l }
settle f well (access x k e m) l = resume f well x None (access_talk f x) k m (λ r l'. settle f well (m r) l') l

abbrev pub seen_then : Option Touch → Option ℕ → Option ℕ
seen_then None s = s
seen_then (Some (got a v)) s = Some v
seen_then (Some (wrote a v)) s = Some v

abbrev pub log_then : Access → Option Touch → Option ℕ → List Entry → List Entry
log_then x None s l = l
log_then x (Some t) s l = touched x s t ∷ l

-- `own`: what each port last wrote to CTRL
pub record Sys (f : Family) : Type 0 where
  pub chip : Chip
  pub ports : Side → State f
  pub own : Side → ℕ
  pub log : List Entry

abbrev pub moved : {f : Family} → Side → Chip → ℕ → Next f → Sys f → Sys f
moved p c own n s = record { chip = c; ports = change p n.state s.ports; own = change p own s.own; log = n.log }

-- an operation that is begun, taken apart
pub record Begun (f : Family) : Type 0 where
  pub talk : Talk Out
  pub made : Made f talk

-- nothing after the end
unfoldable pub acts : (f : Family) → Side → World → Sys f → State f → Sys f
acts f p w s (idle well) = s
acts f p w s (out well a c o m) =
    let d = do_action f p w s.chip a in
    moved p d.chip (own_then f a (s.own p)) (settle f well (m d.reply) s.log) s
acts f p w s (inside well x seen a c k m) =
    let d = do_action f p w s.chip a in
    let t = touch f (s.own p) a d.reply in
    moved p d.chip (own_then f a (s.own p)) (resume f well x (seen_then t seen) (c d.reply) k m (λ r l. settle f well (m r) l) (log_then x t seen s.log)) s

-- nothing where it is refused, or one of the port's own is running
unfoldable pub begins : (f : Family) → Side → Sys f → Option (Begun f) → State f → Sys f
begins f p s None q = s
begins f p s (Some g) (idle well) = moved p s.chip (s.own p) (settle f well g.made s.log) s
begins f p s (Some g) (out well a c o m) = s
begins f p s (Some g) (inside well x seen a c k m) = s

-- `ops`: what a port begins with an operation and its arguments, none where it is refused
unfoldable pub step : {Op : Type 0} (f : Family) (ops : Side → Op → Option (Begun f)) → Event Op → Sys f → Sys f
step f ops (begin p o) s = begins f p s (ops p o) (s.ports p)
step f ops (act p w) s = acts f p w s (s.ports p)
step f ops (firm i) s = record { chip = do_firmware i s.chip; ports = s.ports; own = s.own; log = s.log }

-- the list's first event first
unfoldable pub run : {Op : Type 0} (f : Family) (ops : Side → Op → Option (Begun f)) → List (Event Op) → Sys f → Sys f
run f ops [] s = s
run f ops (e ∷ es) s = run f ops es (step f ops e s)
