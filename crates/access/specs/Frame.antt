-- What an access keeps, and the Rust's functions that look the family up at each step, with what they look up taken from there.
-- They are those of the reference: proofs/Chosen.antt
use Rattle.std.specs.Prelude.{ℕ, Bool, true, false, eqb, Ok, Err}
use Rattle.hardware.specs.Talk.{Call, Res, end, and_then, ◌>>=◌, ◌>>◌, attempt, times, pick, is_clear, return, fail}
use Rattle.hardware.specs.Block.{Blk}
use Rattle.hardware.specs.Regs.{regs}
use Rattle.hardware.specs.declared.Error.TheVariants.{Firmware}
use Rattle.hardware.specs.declared.Port.{Port}
use Rattle.reference.specs.Sync.{mux, held, plain, with_block}
use Rattle.reference.specs.Acquire.{hw_of, acquire_lost, forget}
use Rattle.reference.specs.Hostif.{exchange, token_answer}
use Rattle.sync.specs.Sync.{take_bits, give_bits}
use Rattle.sync.specs.declared.sync.SyncCall.{SyncCall}
use Rattle.jobs.specs.Token.{token_words}
use Rattle.access.specs.declared.frame.Frame.{Frame}

abbrev pub frame_of : Port → ℕ → Frame
frame_of port mask = record { regs = regs port.family; lan = port.lan; mask = mask; mux = mux port (hw_of mask) }

-- the mask's bits, and those of a command
abbrev pub bits_of : Frame → SyncCall
bits_of f = record { regs = f.regs; mask = hw_of f.mask; mux = f.mux }

abbrev pub command_bits : Frame → SyncCall
command_bits f = record { regs = f.regs; mask = 0x400; mux = false }

abbrev pub command_by : Frame → Blk ℕ
command_by f b = held (with_block b) (take_bits (command_bits f)) (give_bits (command_bits f)) (exchange b)

abbrev pub token_by : Frame → Bool → Call Bool
token_by f take = and_then (command_by f (token_words f.lan take)) (token_answer take)

abbrev pub acquire_given_by : Frame → Call (Unit {0}) → Res Bool → Call (Unit {0})
acquire_given_by f again granted =
    pick (eqb (hw_of f.mask) 0) (acquire_lost granted again)
    (do
      give_bits (bits_of f)
      acquire_lost granted again)

abbrev pub acquire_got_by : Frame → Call (Unit {0}) → Res Bool → Call (Unit {0})
acquire_got_by f again (Ok true) = return tt
acquire_got_by f again (Ok false) = acquire_given_by f again (Ok false)
acquire_got_by f again (Err e) = acquire_given_by f again (Err e)

abbrev pub acquire_ask_by : Frame → Call (Unit {0}) → Call (Unit {0})
acquire_ask_by f again =
    do
      granted ← attempt (token_by f true)
      acquire_got_by f again granted

abbrev pub acquire_turn_by : Frame → Call (Unit {0}) → Call (Unit {0})
acquire_turn_by f again =
    pick (eqb (hw_of f.mask) 0) (acquire_ask_by f again)
    (do
      take_bits (bits_of f)
      acquire_ask_by f again)

abbrev pub acquire_times_by : Frame → ℕ → Call (Unit {0})
acquire_times_by f n = times n (acquire_turn_by f) (fail (Firmware 0x0a 0x80))

abbrev pub acquire_by : Frame → Call (Unit {0})
acquire_by f = pick (is_clear f.mask 0x40000000) (take_bits (bits_of f)) (acquire_times_by f 1000)

abbrev pub release_rest_by : Frame → Res (Unit {0}) → Call (Unit {0})
release_rest_by f token =
    pick (eqb (hw_of f.mask) 0) (end token)
    (do
      give_bits (bits_of f)
      end token)

abbrev pub release_by : Frame → Call (Unit {0})
release_by f =
    pick (is_clear f.mask 0x40000000) (release_rest_by f (Ok tt))
    (do
      given ← attempt (token_by f false)
      release_rest_by f (forget given))

abbrev pub locked_by : Frame → Call ℕ → Call ℕ
locked_by f body = held plain (acquire_by f) (release_by f) body
