-- The model at work, computed: a kr_read alone, two ports that take turns, and a port that stops in the midst of an access
use Rattle.std.specs.Prelude.{Err, Ok, Option, None, Some}
use Rattle.hardware.specs.Talk.{Talk, Res, end, and_then, times}
use Prim.Native.Nat.{ℕ}
use mathlib.Core.Path.{◌≡◌, refl}
use mathlib.Core.Bool.{Bool, true, false}
use mathlib.Core.List.{List, [], ◌∷◌, ◌++◌}
use lib.ListN.{replicate}
use Rattle.hardware.specs.Bits.{bit}
use Rattle.hardware.specs.Refusal.{refusal}
use Rattle.hardware.specs.declared.Error.TheVariants.{Semaphore}
use Rattle.hardware.specs.declared.Family.{Family}
use Rattle.hardware.specs.declared.Family.TheVariants.{X552, X553}
use Rattle.words.specs.Semaphore.{software, firmware, flash, bits}
use Rattle.answers.specs.declared.Value.{Value}
use Rattle.answers.specs.declared.Value.TheVariants as valuev
use Rattle.reference.specs.Acquire.{acquire, release, release_rest}
use Rattle.operations.specs.Request.{request}
use Rattle.operations.specs.declared.Operation.{Operation}
use Rattle.operations.specs.declared.Operation.TheVariants.{Acquire, Command, KrRead, KrWrite, ReadReg}
use Rattle.reference.specs.Sync.{mux, acquire_bits, release_bits}
use Rattle.reference.specs.Out.{Out}
use Rattle.reference.specs.X552.{iosf_idle, kr_read, kr_write}
use Rattle.calls.specs.Conversation.{step_talk}
use Rattle.hardware.specs.declared.Stop.TheVariants.{AfterEnd}
use Rattle.mixing.specs.Conversations.{step_real, Real, run_real, fresh}
use Rattle.mixing.specs.Operations.{Asked, number, port_with}
use Rattle.mixing.specs.Mixing.{starting, takes}
use Rattle.mixing.specs.Model.{World, Side, lan0, lan1, of_port, take, let_go, raise, free}
use Rattle.mixing.specs.Model as model
use Rattle.mixing.specs.Events.{act, got, wrote, Event, begin, firm}
use Rattle.mixing.specs.System.{Caller, reads, access_talk, done, access, idle, touched, gave, Sys, Begun, settle, acts, begins, step, run}
use Rattle.mixing.specs.Turns.{turns}

abbrev caller : Side → Caller
caller p = record { pause = 10; device = 0x15ad; lan = number p }

-- a kr_read by itself, on a port of device 15ad
abbrev answer_of : Res ℕ → Res Value
answer_of (Ok v) = Ok (valuev.Word v)
answer_of (Err e) = Err e

abbrev read_of : Side → ℕ → Option (Begun X552)
read_of p a =
    Some (record {
      talk = and_then (access_talk X552 (reads (caller p) a)) (λ r. end (answer_of r, []));
      made = access (reads (caller p) a) (λ r. end (answer_of r, [])) refl (λ r. done (answer_of r, []));
    })

module _ (regs : ℕ → ℕ) where
  after : List (Event ℕ) → Sys X552
  after es = run X552 read_of es (starting (free 0x20 7 regs))

  -- case 13: 23 actions
  alone : (after (begin lan0 5 ∷ turns 23 lan0)).log ≡ gave (reads (caller lan0) 5) (Some (regs 5)) (Ok (regs 5)) ∷ touched (reads (caller lan0) 5) None (got 5 (regs 5)) ∷ []
  unfolding after run step begins acts settle bit times kr_read acquire acquire_bits release release_rest release_bits iosf_idle mux bits software firmware flash
  alone = refl

  ended : (after (begin lan0 5 ∷ turns 23 lan0)).ports lan0 ≡ idle true
  unfolding after run step begins acts settle bit times kr_read acquire acquire_bits release release_rest release_bits iosf_idle mux bits software firmware flash
  ended = refl

  not_yet : (after (begin lan0 5 ∷ turns 22 lan0)).log ≡ touched (reads (caller lan0) 5) None (got 5 (regs 5)) ∷ []
  unfolding after run step begins acts settle bit times kr_read acquire acquire_bits release release_rest release_bits iosf_idle mux bits software firmware flash
  not_yet = refl

  -- lan 1 begins in the midst of lan 0's access, and waits for it
  both : (after ((begin lan0 5 ∷ turns 12 lan0) ++ ((begin lan1 6 ∷ turns 9 lan1) ++ (turns 11 lan0 ++ turns 23 lan1)))).log
      ≡ gave (reads (caller lan1) 6) (Some (regs 6)) (Ok (regs 6)) ∷ touched (reads (caller lan1) 6) None (got 6 (regs 6))
      ∷ gave (reads (caller lan0) 5) (Some (regs 5)) (Ok (regs 5)) ∷ touched (reads (caller lan0) 5) None (got 5 (regs 5)) ∷ []
  unfolding after run step begins acts settle bit times kr_read acquire acquire_bits release release_rest release_bits iosf_idle mux bits software firmware flash
  both = refl

  -- lan 1 begins while lan 0 has just seen its bits free: it finds the register semaphore taken, and then the bits
  race : (after ((begin lan0 5 ∷ turns 3 lan0) ++ ((begin lan1 6 ∷ turns 2 lan1) ++ (turns 5 lan0 ++ (turns 9 lan1 ++ (turns 15 lan0 ++ turns 23 lan1)))))).log
      ≡ gave (reads (caller lan1) 6) (Some (regs 6)) (Ok (regs 6)) ∷ touched (reads (caller lan1) 6) None (got 6 (regs 6))
      ∷ gave (reads (caller lan0) 5) (Some (regs 5)) (Ok (regs 5)) ∷ touched (reads (caller lan0) 5) None (got 5 (regs 5)) ∷ []
  unfolding after run step begins acts settle bit times kr_read acquire acquire_bits release release_rest release_bits iosf_idle mux bits software firmware flash
  race = refl

  -- lan 0 stops there for good: lan 1 tries 1000 times, and says who is in its way
  stopped : (after ((begin lan0 5 ∷ turns 12 lan0) ++ (begin lan1 6 ∷ turns 9000 lan1))).log ≡ gave (reads (caller lan1) 6) None (Err (Semaphore 6)) ∷ []
  unfolding after run step begins acts settle bit times kr_read acquire acquire_bits release release_rest release_bits iosf_idle mux bits software firmware flash
  stopped = refl

-- ---- the code's conversations

abbrev asks : ℕ → Operation → Asked
asks device what = record { device = device; pause = 10; what = what; block = [] }

abbrev at_work : Family → (ℕ → ℕ) → List (Event Asked) → Real
at_work f regs es = run_real f es (fresh f (λ _. (Ok valuev.Nothing, [])) (free 0x20 7 regs))

abbrev says : Real → Side → Talk Out
says s p = (s.ports p).conv.talk

module _ (regs : ℕ → ℕ) where
  -- the firmware takes bit 31, raises bit 6 and lets go: kr_read tries 1000 times, and says what is in its way
  blocked : says (at_work X552 regs (firm take ∷ firm (raise 6) ∷ firm let_go ∷ begin lan0 (asks 0x15ad (KrRead 5)) ∷ turns 9000 lan0)) lan0
      ≡ end (Err (Semaphore 0x40), [])
  unfolding run_real refusal request bit times kr_read acquire acquire_bits release release_rest release_bits iosf_idle mux bits software firmware flash
  blocked = refl

  -- two ports write to one address
  abbrev written : Real
  written =
      at_work X552 regs
      ((begin lan0 (asks 0x15ad (KrWrite 5 17)) ∷ begin lan1 (asks 0x15ad (KrWrite 5 34)) ∷ turns 12 lan0)
      ++ (turns 9 lan1 ++ turns 11 lan0 ++ turns 23 lan1))

  two_writes : (written.touches ≡ wrote 5 34 ∷ wrote 5 17 ∷ []) × (written.chip.kr 5 ≡ 34)
      × (says written lan0 ≡ end (Ok valuev.Nothing, [])) × (says written lan1 ≡ end (Ok valuev.Nothing, []))
  unfolding run_real refusal request bit times kr_write acquire acquire_bits release release_rest release_bits iosf_idle mux bits software firmware flash
  two_writes = (refl, refl, refl, refl)

  -- the X553, whose kr_read takes no token either
  abbrev second : Real
  second = at_work X553 regs (begin lan1 (asks 0x15c2 (KrRead 5)) ∷ turns 23 lan1)

  x553 : (says second lan1 ≡ end (Ok (valuev.Word (regs 5)), [])) × (second.touches ≡ got 5 (regs 5) ∷ [])
  unfolding run_real refusal request bit times kr_read acquire acquire_bits release release_rest release_bits iosf_idle mux bits software firmware flash
  x553 = (refl, refl)

  -- asked once more, with a kind that no reply has: 24, and it says what it said
  abbrev once_more : World
  once_more = record { busy = true; reply = Ok 8; kind = 7; value = 9 }

  late : ((step_talk (second.ports lan1).conv 7 9).stop ≡ AfterEnd)
      × (says (step_real X553 (act lan1 once_more) second) lan1 ≡ end (Ok (valuev.Word (regs 5)), []))
  unfolding run_real refusal request bit times kr_read acquire acquire_bits release release_rest release_bits iosf_idle mux bits software firmware flash
  late = (refl, refl)

  -- the firmware takes bit 31 before the release, and keeps it: the release fails, and bits 1 and 2 are still the port's
  abbrev kept : Real
  kept = at_work X552 regs ((begin lan0 (asks 0x15ad (KrRead 5)) ∷ turns 13 lan0) ++ (firm take ∷ turns 4010 lan0))

  release_fails : (says kept lan0 ≡ end (Err (Semaphore 0x80000000), [])) × ((kept.ports lan0).well ≡ false)
      × (kept.chip.sync.owner 1 ≡ of_port lan0) × (kept.chip.sync.owner 2 ≡ of_port lan0) × (kept.chip.sync.owner 31 ≡ model.firmware)
  unfolding run_real refusal request bit times kr_read acquire acquire_bits release release_rest release_bits iosf_idle mux bits software firmware flash
  release_fails = (refl, refl, refl, refl, refl)

-- what is begun, and what is refused: a fiber port, a KR address above 0xffff, a PHY address above 31, a host block of 449 words, a bare acquire
abbrev asked : ℕ → Operation → List ℕ → Bool
asked device what ws = takes (port_with X552 lan0 device 10) what ws

begun_or_not :
    (asked 0x15ad (KrRead 0xffff) [] ≡ true)
    × (asked 0x15ad (KrRead 0x10000) [] ≡ false)
    × (asked 0x15ac (KrRead 5) [] ≡ false)
    × (asked 0x15ad (ReadReg 31 31 0) [] ≡ true)
    × (asked 0x15ad (ReadReg 32 0 0) [] ≡ false)
    × (asked 0x15ad Command (replicate 448 0) ≡ true)
    × (asked 0x15ad Command (replicate 449 0) ≡ false)
    × (asked 0x15ad (Acquire 6) [] ≡ false)
unfolding refusal request
begun_or_not = (refl, refl, refl, refl, refl, refl, refl, refl)
