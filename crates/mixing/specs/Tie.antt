-- What ties the code's conversations to the model's ports, and its touches to the accesses of the model's record
use Rattle.hardware.specs.Talk.{Talk, end, ask, and_then}
use Rattle.std.specs.Prelude.{ℕ, ◌≡◌, Bool, List, [], ◌∷◌}
use Rattle.hardware.specs.declared.Family.{Family}
use Rattle.reference.specs.Out.{Out}
use Rattle.mixing.specs.Conversations.{Real, run_real, fresh}
use Rattle.mixing.specs.Operations.{Asked}
use Rattle.mixing.specs.Mixing.{Parts, ops_of, starting}
use Rattle.mixing.specs.Model.{Side, free}
use Rattle.mixing.specs.Events.{Touch, Event}
use Rattle.mixing.specs.System.{State, idle, out, inside, Entry, touched, gave, Sys, run}

-- a port of the model and a conversation say the same from here on, and went as well
abbrev pub Stands : {f : Family} → State f → Talk Out → Bool → Type 0
Stands (idle well) t w = ((r : Out) × (t ≡ end r)) × (w ≡ well)
Stands (out well a c o m) t w = (t ≡ ask a c) × (w ≡ well)
Stands (inside well x seen a c k m) t w = (t ≡ and_then (ask a c) k) × (w ≡ well)

-- the touches of a record of accesses
abbrev pub touches_of : List Entry → List Touch
touches_of [] = []
touches_of (touched x s t ∷ l) = t ∷ touches_of l
touches_of (gave x s r ∷ l) = touches_of l

pub record Tied {f : Family} (s : Sys f) (r : Real) : Type 0 where
  pub chip : r.chip ≡ s.chip
  pub stands : (p : Side) → Stands (s.ports p) (r.ports p).conv.talk (r.ports p).well
  pub own : (p : Side) → (r.ports p).own ≡ s.own p
  pub touches : r.touches ≡ touches_of s.log

-- after every list of events the code's chip and conversations are the model's, and its touches those of the model's accesses
abbrev pub AsTheModel : Family → Type 0
AsTheModel f = (made : Parts f) (before : Side → Out) (bits address : ℕ) (regs : ℕ → ℕ) (es : List (Event Asked))
    → Tied (run f (ops_of f made) es (starting (free bits address regs))) (run_real f es (fresh f before (free bits address regs)))
