-- Demand 3: the KR table, and the statement
use Rattle.hardware.specs.Talk.{Talk, Res}
use Rattle.std.specs.Prelude.{ℕ, ◌≡◌, refl, Bool, true, false, ◌&&◌, List, [], ◌∷◌, Err, Ok, Option, None, Some}
use Rattle.hardware.specs.declared.Family.{Family}
use Rattle.hardware.specs.declared.Port.{Port}
use Rattle.reference.specs.Out.{Out}
use Rattle.operations.specs.Request.{refused}
use Rattle.operations.specs.Operations.{operation}
use Rattle.operations.specs.declared.Operation.{Operation}
use Rattle.mixing.specs.Model.{Side, of_port, put, free, Chip}
use Rattle.mixing.specs.Operations.{mixable, Asked, port_at}
use Rattle.mixing.specs.Events.{is_ok, Touch, got, wrote, Event}
use Rattle.mixing.specs.System.{Access, reads, writes, Given, Made, idle, Entry, touched, gave, Sys, Begun, run}

-- a write puts its word at its address
abbrev pub feed : Access → (ℕ → ℕ) → ℕ → ℕ
feed (reads who a) t = t
feed (writes who a w) t = put a w t

-- the table t, fed the touches of a record
unfoldable pub table : (ℕ → ℕ) → List Entry → ℕ → ℕ
table t [] = t
table t (touched x s d ∷ l) = feed x (table t l)
table t (gave x s r ∷ l) = table t l

-- The port had itself selected the access's address. A read access reads, and got the word that the table has there; a write
-- access writes, and wrote the access's word
abbrev pub RightTouch : Access → (ℕ → ℕ) → Touch → Type 0
RightTouch (reads who a) t (got b v) = (b ≡ a) × (v ≡ t a)
RightTouch (reads who a) t (wrote b v) = ⊥
RightTouch (writes who a w) t (got b v) = ⊥
RightTouch (writes who a w) t (wrote b v) = (b ≡ a) × (v ≡ w)

-- a read access that succeeded gave the word that it got from DATA
abbrev pub RightGave : (x : Access) → Option ℕ → Res (Given x) → Type 0
RightGave (reads who a) s (Ok v) = s ≡ Some v
RightGave (reads who a) s (Err e) = Unit {0}
RightGave (writes who a w) s r = Unit {0}

-- at each entry, with the table as it was then; an access touches DATA once
unfoldable pub Right : (ℕ → ℕ) → List Entry → Type 0
Right t [] = Unit {0}
Right t (touched x s d ∷ l) = (s ≡ None) × RightTouch x (table t l) d × Right t l
Right t (gave x s r ∷ l) = RightGave x s r × Right t l

-- what demand 3 says of the end of a list of events, from a chip with the KR registers `regs`
pub record Mixed {f : Family} (regs : ℕ → ℕ) (s : Sys f) : Type 0 where
  -- the KR registers are the table, fed the touches of DATA in order, each with its access's own address and word
  pub registers : (a : ℕ) → s.chip.kr a ≡ table regs s.log a
  -- each touch had the table's word at its turn, and each read access that succeeded gave it
  pub answers : Right regs s.log
  -- a port with no operation running, whose operations all were refused or ended well, owns no semaphore bit
  pub owns : (p : Side) → s.ports p ≡ idle true → (i : ℕ) → (s.chip.swsm.owner i ≡ of_port p → ⊥) × (s.chip.sync.owner i ≡ of_port p → ⊥)

abbrev pub starting : {f : Family} → Chip → Sys f
starting c = record { chip = c; ports = λ _. idle true; own = λ _. c.selected; log = [] }

-- every list of events from every free chip
abbrev pub Mixing : {O : Type 0} (f : Family) → (Side → O → Option (Begun f)) → Type 0
Mixing {O} f ops = (bits address : ℕ) (regs : ℕ → ℕ) (es : List (Event O)) → Mixed regs (run f ops es (starting (free bits address regs)))

-- an operation that is mixed, and is not turned away
abbrev pub takes : Port → Operation → List ℕ → Bool
takes port what ws = mixable what && is_ok (refused port what ws)

abbrev pub begun_if : (f : Family) (t : Talk Out) (b : Bool) → (b ≡ true → Made f t) → Option (Begun f)
begun_if f t true m = Some (record { talk = t; made = m refl })
begun_if f t false m = None

-- every operation taken apart
abbrev pub Parts : Family → Type 0
Parts f = (p : Side) (q : Asked) → takes (port_at f p q) q.what q.block ≡ true
    → Made f (operation (port_at f p q) q.what q.block)

abbrev pub ops_of : (f : Family) → Parts f → Side → Asked → Option (Begun f)
ops_of f made p q =
    begun_if f (operation (port_at f p q) q.what q.block) (takes (port_at f p q) q.what q.block) (made p q)

-- demand 3: the operations can be taken apart into accesses, and however this is done, every list of events is mixed
pub record Demand3 (f : Family) : Type 0 where
  pub parts : Parts f
  pub mixes : (made : Parts f) → Mixing f (ops_of f made)
