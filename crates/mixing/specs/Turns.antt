-- Two reads of KR registers that take turns. No theorem of demand 3 uses this: it is where must-fail/ tries faulty accesses in
-- the place of the reference's
use Rattle.hardware.specs.Talk.{Talk, Res}
use Rattle.std.specs.Prelude.{ℕ, zero, suc, true, List, [], ◌∷◌}
use Rattle.hardware.specs.declared.Family.{Family}
use Rattle.hardware.specs.declared.Family.TheVariants.{X552}
use Rattle.answers.specs.declared.Value.TheVariants as valuev
use Rattle.reference.specs.Out.{answer}
use Rattle.reference.specs.X552.{kr_read}
use Rattle.calls.specs.Conversation.{opening}
use Rattle.mixing.specs.Alone.{calm}
use Rattle.mixing.specs.Conversations.{Real, at_port, run_real}
use Rattle.mixing.specs.Operations.{Asked, number, port_with}
use Rattle.mixing.specs.Model.{Side, lan0, lan1, Chip}
use Rattle.mixing.specs.Events.{Event, act}
use Rattle.mixing.specs.System.{Caller, port_of}

-- the access that is tried: a read
abbrev pub tried : Family → Caller → ℕ → Talk (Res ℕ)
tried f who a = kr_read who.pause (port_of f who) a

-- n turns of p, never busy
abbrev pub turns : {Op : Type 0} → ℕ → Side → List (Event Op)
turns zero p = []
turns (suc n) p = act p (calm 0) ∷ turns n p

-- lan 0 reads KR register 5, and lan 1 reads register 6
abbrev pub address : Side → ℕ
address lan0 = 5
address lan1 = 6

abbrev pub reading : Side → Talk (Res ℕ)
reading p = tried X552 (record { pause = 10; device = 0x15ad; lan = number p }) (address p)

abbrev pub two_reads : Chip → Real
two_reads c = record {
  chip = c;
  ports = λ p. at_port (opening (port_with X552 p 0x15ad 10) (answer valuev.Word (reading p))) true c.selected;
  touches = [];
}

abbrev pub after : List (Event Asked) → Chip → Real
after es c = run_real X552 es (two_reads c)
