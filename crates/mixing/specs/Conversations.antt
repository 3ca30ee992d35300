-- Demand 3 of the code: two ports' conversations, as `begin` begins them and `step` moves them, on the model's chip
use Rattle.hardware.specs.Talk.{Talk, end, ask, pick, Reply}
use Rattle.std.specs.Prelude.{ℕ, ◌≡◌, Bool, true, List, [], ◌∷◌, Err, Ok, Option, None, Some}
use Rattle.hardware.specs.declared.Family.{Family}
use Rattle.reference.specs.Out.{Out}
use Rattle.operations.specs.Request.{refused}
use Rattle.calls.specs.Conversation.{Conv, opening, begun, step_talk}
use Rattle.mixing.specs.Model.{Side, of_port, put, Chip, World, do_action, do_firmware, free}
use Rattle.mixing.specs.Operations.{mixable, Asked, port_with, port_at}
use Rattle.mixing.specs.Events.{is_ok, ends_well, word, Touch, got, wrote, touch, own_then, change, Event, begin, act, firm}

-- A port's last conversation; whether each of its calls so far was refused, or ended with an answer that is no error, or still
-- runs; and what the port itself last wrote to CTRL
pub record AtPort : Type 0 where
  pub conv : Conv
  pub well : Bool
  pub own : ℕ

-- the chip, the two ports, and the touches of DATA, the last first
pub record Real : Type 0 where
  pub chip : Chip
  pub ports : Side → AtPort
  pub touches : List Touch

-- the first of the two words that `step` is handed
abbrev pub kind_of : Reply → ℕ
kind_of (Ok v) = 0
kind_of (Err v) = 1

abbrev pub well_then : Talk Out → Bool → Bool
well_then (end o) well = ends_well (is_ok o.0) well
well_then (ask a k) well = well

abbrev pub noted : Option Touch → List Touch → List Touch
noted None l = l
noted (Some t) l = t ∷ l

abbrev pub at_port : Conv → Bool → ℕ → AtPort
at_port c well own = record { conv = c; well = well; own = own }

abbrev pub changed : Side → Chip → AtPort → List Touch → Real → Real
changed p c d l s = record { chip = c; ports = change p d s.ports; touches = l }

-- a step with the chip's reply to the action that is due; after the end a step with any two words
abbrev pub steps : Family → Side → World → Real → AtPort → Talk Out → Real
steps f p w s d (end r) = changed p s.chip (at_port (step_talk d.conv w.kind w.value).to d.well d.own) s.touches s
steps f p w s d (ask a k) =
    let x = do_action f p w s.chip a in
    let c = (step_talk d.conv (kind_of x.reply) (word x.reply)).to in
    changed p x.chip (at_port c (well_then c.talk d.well) (own_then f a d.own)) (noted (touch f d.own a x.reply) s.touches) s

-- A begin. Where one of the port's own is running nothing happens: a host begins no other before it has ended. A call that is
-- refused leaves `well` as it was
abbrev pub starts : Family → Side → Asked → Real → AtPort → Talk Out → Real
starts f p q s d (end r) =
    let port = port_at f p q in
    let c = begun port q.what q.block in
    let well = pick (is_ok (refused port q.what q.block)) (well_then c.talk d.well) d.well in
    pick (mixable q.what) (changed p s.chip (at_port c well d.own) s.touches s) s
starts f p q s d (ask a k) = s

abbrev pub step_real : Family → Event Asked → Real → Real
step_real f (begin p q) s = starts f p q s (s.ports p) (s.ports p).conv.talk
step_real f (act p w) s = steps f p w s (s.ports p) (s.ports p).conv.talk
step_real f (firm i) s = record { chip = do_firmware i s.chip; ports = s.ports; touches = s.touches }

-- the list's first event first
unfoldable pub run_real : Family → List (Event Asked) → Real → Real
run_real f [] s = s
run_real f (e ∷ es) s = run_real f es (step_real f e s)

-- before its first call a port has any conversation that has ended, and the chip's address counts as its own
abbrev pub fresh : Family → (Side → Out) → Chip → Real
fresh f before c =
    record { chip = c; ports = λ p. at_port (opening (port_with f p 0 0) (end (before p))) true c.selected; touches = [] }

-- the table t, fed the touches: a write puts its word at its own address
unfoldable pub fed : (ℕ → ℕ) → List Touch → ℕ → ℕ
fed t [] = t
fed t (got a v ∷ l) = fed t l
fed t (wrote a v ∷ l) = put a v (fed t l)

-- each read got the word that the table had at its own address
unfoldable pub Answered : (ℕ → ℕ) → List Touch → Type 0
Answered t [] = Unit {0}
Answered t (got a v ∷ l) = (v ≡ fed t l a) × Answered t l
Answered t (wrote a v ∷ l) = Answered t l

-- what demand 3 says of the end of a list of events, from a chip with the KR registers `regs`
pub record Served (regs : ℕ → ℕ) (s : Real) : Type 0 where
  -- the KR registers are the table, fed the touches of DATA in order
  pub registers : (a : ℕ) → s.chip.kr a ≡ fed regs s.touches a
  -- each read of DATA got what the table had
  pub answers : Answered regs s.touches
  -- a port whose calls all were refused or ended with no error, and whose last one has ended, owns no semaphore bit
  pub owns : (p : Side) (o : Out) → (s.ports p).well ≡ true → (s.ports p).conv.talk ≡ end o
      → (i : ℕ) → (s.chip.swsm.owner i ≡ of_port p → ⊥) × (s.chip.sync.owner i ≡ of_port p → ⊥)

-- demand 3 of the code: every list of events from every free chip
abbrev pub OfTheCode : Family → Type 0
OfTheCode f = (before : Side → Out) (bits address : ℕ) (regs : ℕ → ℕ) (es : List (Event Asked))
    → Served regs (run_real f es (fresh f before (free bits address regs)))
