-- A frame's acquire, release, locked and command are the reference's for the port that it was made of
use Rattle.std.specs.Prelude.{Err, Ok, ◌&&◌}
use Rattle.hardware.specs.Talk.{Talk, Call, Res, and_then, or_stop, attempt, times, pick, is_clear, fail, ◌>>◌, ◌>>=◌}
use Prim.Native.Nat.{ℕ}
use lib.Dec.{eqb}
use mathlib.Core.Bool.{Bool, true, false}
use mathlib.Core.List.{List}
use mathlib.Core.Path.{◌≡◌, refl, ap, sym, fun_ext, ◌∙◌}
use Rattle.hardware.specs.declared.Error.TheVariants.{Firmware}
use Rattle.hardware.specs.declared.Family.{Family}
use Rattle.hardware.specs.declared.Family.TheVariants.{X552, X553}
use Rattle.hardware.specs.declared.Port.{Port}
use Rattle.hardware.specs.Regs.{regs}
use Rattle.reference.specs.Sync.{mux, mux_at, plain, with_block, held, acquire_bits, release_bits, release_bits_with, acquire_bits_times, settle}
use Rattle.words.specs.Semaphore.{bits}
use Rattle.reference.specs.Acquire.{hw_of, acquire, acquire_turn, acquire_ask, acquire_got, acquire_given, release, release_rest, locked, forget}
use Rattle.reference.specs.Hostif.{exchange, command, token, token_word, token_answer}
use Rattle.sync.specs.Sync.{take_bits, give_bits}
use Rattle.jobs.specs.Token.{token_words, token_got}
use Rattle.jobs.proofs.Bytes.{held_cut}
use Rattle.access.specs.Frame.{
  frame_of,
  bits_of,
  command_bits,
  command_by,
  token_by,
  acquire_given_by,
  acquire_got_by,
  acquire_ask_by,
  acquire_turn_by,
  acquire_by,
  release_rest_by,
  release_by,
  locked_by,
}
use Rattle.access.specs.declared.frame.Frame.{Frame}

-- SW_MNG is behind no mux
no_mux_at : (family : Family) (lan : ℕ) → mux_at family lan 0x400 ≡ false
no_mux_at X552 lan = neither (eqb lan 1)
  where
    neither : (c : Bool) → (c && false) ≡ false
    neither true = refl
    neither false = refl
no_mux_at X553 lan = refl

module _ (port : Port) (mask : ℕ) where
  take_lem : acquire_bits port (hw_of mask) ≡ take_bits (bits_of (frame_of port mask))
  unfolding acquire_bits
  take_lem = refl

  give_lem : release_bits port (hw_of mask) ≡ give_bits (bits_of (frame_of port mask))
  unfolding release_bits
  give_lem = refl

  pub command_lem : (b : List ℕ) → command port b ≡ command_by (frame_of port mask) b
  unfolding command acquire_bits release_bits mux
  command_lem b =
      ap
      (λ (switch : Bool). held (with_block b) (acquire_bits_times (regs port.family) (bits 0x400) switch 1000 0)
      (release_bits_with (regs port.family) (bits 0x400).sw (settle 0x400) switch)
      (exchange b))
      (no_mux_at port.family port.lan)

  token_lem : (take : Bool) → token port take ≡ token_by (frame_of port mask) take
  unfolding token token_word
  token_lem take = ap (λ (t : Talk (Res ℕ × List ℕ)). and_then t (token_answer take)) (command_lem (token_words port.lan take))

  given_lem : (again : Call (Unit {0})) (granted : Res Bool) → acquire_given port (hw_of mask) again granted ≡ acquire_given_by (frame_of port mask) again granted
  unfolding acquire_given release_bits
  given_lem again granted = refl

  got_lem : (again : Call (Unit {0})) (granted : Res Bool) → acquire_got port (hw_of mask) again granted ≡ acquire_got_by (frame_of port mask) again granted
  unfolding acquire_got
  got_lem again (Ok true) = refl
  got_lem again (Ok false) = given_lem again (Ok false)
  got_lem again (Err e) = given_lem again (Err e)

  ask_lem : (again : Call (Unit {0})) → acquire_ask port (hw_of mask) again ≡ acquire_ask_by (frame_of port mask) again
  unfolding acquire_ask
  ask_lem again =
      ap (λ (t : Call Bool). and_then (attempt t) (or_stop (acquire_got port (hw_of mask) again))) (token_lem true)
      ∙ ap (λ (k : Res Bool → Call (Unit {0})). and_then (attempt (token_by (frame_of port mask) true)) (or_stop k)) (fun_ext (got_lem again))

  turn_lem : (again : Call (Unit {0})) → acquire_turn port (hw_of mask) again ≡ acquire_turn_by (frame_of port mask) again
  unfolding acquire_bits
  turn_lem again = ap (λ (t : Call (Unit {0})). pick (eqb (hw_of mask) 0) t (take_bits (bits_of (frame_of port mask)) >> t)) (ask_lem again)

  pub acquire_lem : acquire port mask ≡ acquire_by (frame_of port mask)
  unfolding acquire acquire_bits
  acquire_lem =
      ap (λ (turn : Call (Unit {0}) → Call (Unit {0})). pick (is_clear mask 0x40000000) (take_bits (bits_of (frame_of port mask))) (times 1000 turn (fail (Firmware 0x0a 0x80))))
      (fun_ext turn_lem)

  rest_lem : (given : Res (Unit {0})) → release_rest port (hw_of mask) given ≡ release_rest_by (frame_of port mask) given
  unfolding release_rest release_bits
  rest_lem given = refl

  pub release_lem : release port mask ≡ release_by (frame_of port mask)
  unfolding release release_rest release_bits
  release_lem =
      ap (λ (t : Call Bool). pick (is_clear mask 0x40000000) (release_rest_by (frame_of port mask) (Ok tt)) (attempt t >>= (λ given. release_rest_by (frame_of port mask) (forget given))))
      (token_lem false)

  pub locked_lem : (body : Call ℕ) → locked plain port mask body ≡ locked_by (frame_of port mask) body
  locked_lem body =
      ap (λ (take : Call (Unit {0})). held plain take (release port mask) body) acquire_lem
      ∙ ap (λ (give : Call (Unit {0})). held plain (acquire_by (frame_of port mask)) give body) release_lem

-- what goes on from the token's command may go on from its status's lowest byte
pub token_cut : (f : Frame) (take : Bool) → token_by f take ≡ and_then (command_by f (token_words f.lan take)) (λ p. token_got take p.0)
token_cut f take = sym (held_cut (take_bits (command_bits f)) (give_bits (command_bits f)) (token_words f.lan take) (token_answer take))
