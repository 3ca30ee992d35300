-- What the code's run shows
use Rattle.std.specs.Prelude.{ℕ, List}
use Rattle.hardware.specs.declared.Port.{Port}
use Rattle.drive.specs.declared.Host.{Host}
use Rattle.drive.specs.Moves.{Tape, tape}
use Rattle.started.specs.Standing.{told_standing}
use Rattle.calls.specs.Run.{Shown, tape_of}
use Rattle.conversation.specs.Conversation.{conv_of}
use Rattle.conversation.specs.declared.conversation.Conversation as code
use Rattle.conversation.specs.declared.run.Ran.{Ran}
use Rattle.conversation.specs.declared.run.Reached.{Reached}

-- the code's answer, with the lent words and the transcript as they are then
abbrev pub shown_of : Ran → (words transcript : List ℕ) → Shown
shown_of r ws t =
    record {
      stop = r.stop;
      port = r.to.port;
      talk = (conv_of r.to ws).talk;
      tape = tape_of (conv_of r.to ws) t r.at r.used;
    }

abbrev pub reached_of : Port → Reached → Host → (block words transcript : List ℕ) → Shown
reached_of p r h b ws t =
    record {
      stop = r.stop;
      port = p;
      talk = told_standing p r.place b ws;
      tape = tape h t;
    }

-- a run's tape at the start of its part of the transcript
abbrev pub start_tape : code.Conversation → List ℕ → Tape
start_tape c t = record { actions = c.actions; micros = c.micros; transcript = t; at = 0; used = 0 }

abbrev pub ran_to : code.Conversation → Reached → List ℕ → Host → Ran
ran_to c r block h =
    record {
      stop = r.stop;
      to = record { port = c.port; place = r.place; block = block; actions = h.actions; micros = h.micros };
      actions = h.actions;
      micros = h.micros;
      at = h.at;
      used = h.used;
    }
