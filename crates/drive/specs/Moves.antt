-- A talk that goes on over a script and a tape
use Rattle.std.specs.Prelude.{◌≡◌, ℕ, ◌+◌, ◌-◌, ◌%◌, ◌^◌, ◌<◌, ◌≤◌, List, length, drop, Result, Ok, Err}
use Rattle.std.proofs.lemmas.List.Edits.{sets}
use Rattle.hardware.specs.Bound.{waited}
use Rattle.hardware.specs.Talk.{Talk, Reply, ask}
use Rattle.hardware.specs.declared.Action.{Action}
use Rattle.hardware.specs.declared.Stop.{Stop}
use Rattle.hardware.specs.declared.Stop.TheVariants.{NoRoom, NoReply}
use Rattle.drive.specs.Act.{uses, words, reply_for}
use Rattle.drive.specs.declared.Host.{Host}

-- what is left behind: the counts, the transcript, its next place, and the reply words used
pub record Tape : Type 0 where
  pub actions : ℕ
  pub micros : ℕ
  pub transcript : List ℕ
  pub at : ℕ
  pub used : ℕ

abbrev pub on_tape : Tape → Action → Tape
on_tape t a =
    record {
      actions = (t.actions + 1) % 2 ^ 64;
      micros = (t.micros + waited a) % 2 ^ 64;
      transcript = sets t.transcript t.at (words a);
      at = t.at + 3;
      used = t.used + uses a;
    }

abbrev pub tape : Host → List ℕ → Tape
tape h t = record { actions = h.actions; micros = h.micros; transcript = t; at = h.at; used = h.used }

-- by actions for which there are replies and room, one talk on its tape goes on as another
pub data Moves {A : Type 0} (rs : List ℕ) : Talk A → Tape → Talk A → Tape → Type 0 where
  stays : {m : Talk A} {t : Tape} → Moves rs m t m t
  goes : {a : Action} {k : Reply → Talk A} {m : Talk A} {t t' : Tape}
      → 3 ≤ length t.transcript - t.at → uses a ≤ length rs - t.used
      → Moves rs (k (reply_for a (drop t.used rs))) (on_tape t a) m t'
      → Moves rs (ask a k) t m t'

-- why nothing is done: 27 for want of room, else 26 for want of a reply
abbrev pub Short : Action → List ℕ → Tape → Stop → Type 0
Short a rs t NoRoom = length t.transcript - t.at < 3
Short a rs t NoReply = (3 ≤ length t.transcript - t.at) × (t.used ≤ length rs → length rs - t.used < uses a)
Short a rs t _ = ⊥

-- one action is done, or nothing is
abbrev pub ActsBy : Action → List ℕ → Tape → Result Reply Stop → Tape → Type 0
ActsBy a rs t (Err stop) t' = (t' ≡ t) × Short a rs t stop
ActsBy a rs t (Ok reply) t' =
    (3 ≤ length t.transcript - t.at) × (uses a ≤ length rs - t.used) × (reply_for a (drop t.used rs) ≡ reply) × (t' ≡ on_tape t a)

pub record Acts (a : Action) (rs : List ℕ) (t : Tape) (r : Result Reply Stop) (t' : Tape) : Type 0 where
  pub what : ActsBy a rs t r t'
