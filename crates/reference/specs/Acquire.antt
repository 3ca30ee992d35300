-- sync.rs: `acquire`, `release` and `locked`, with TOKEN
use Rattle.std.specs.Prelude.{ℕ, Bool, true, false, eqb, Ok, Err}
use Rattle.hardware.specs.Bits.{without}
use Rattle.hardware.specs.Talk.{Talk, Call, Res, end, ◌>>=◌, ◌>>◌, attempt, times, pick, is_clear, delay, return, fail}
use Rattle.hardware.specs.declared.Error.TheVariants.{Firmware}
use Rattle.hardware.specs.declared.Port.{Port}
use Rattle.reference.specs.Sync.{Ending, held, acquire_bits, release_bits}
use Rattle.reference.specs.Hostif.{token}

-- the mask without TOKEN
abbrev pub hw_of : ℕ → ℕ
hw_of mask = without mask 0x40000000

-- the token's error, or 5 ms and once more
unfoldable pub acquire_lost : Res Bool → Call (Unit {0}) → Call (Unit {0})
acquire_lost granted again =
    do
      end granted
      delay 5000
      again

unfoldable pub acquire_given : Port → ℕ → Call (Unit {0}) → Res Bool → Call (Unit {0})
acquire_given port hw again granted =
    pick (eqb hw 0) (acquire_lost granted again)
    (do
      release_bits port hw
      acquire_lost granted again)

unfoldable pub acquire_got : Port → ℕ → Call (Unit {0}) → Res Bool → Call (Unit {0})
acquire_got port hw again (Ok true) = return tt
acquire_got port hw again (Ok false) = acquire_given port hw again (Ok false)
acquire_got port hw again (Err e) = acquire_given port hw again (Err e)

unfoldable pub acquire_ask : Port → ℕ → Call (Unit {0}) → Call (Unit {0})
acquire_ask port hw again =
    do
      granted ← attempt (token port true)
      acquire_got port hw again granted

abbrev pub acquire_turn : Port → ℕ → Call (Unit {0}) → Call (Unit {0})
acquire_turn port hw again =
    pick (eqb hw 0) (acquire_ask port hw again)
    (do
      acquire_bits port hw
      acquire_ask port hw again)

abbrev pub acquire_times : Port → ℕ → ℕ → Call (Unit {0})
acquire_times port hw n = times n (acquire_turn port hw) (fail (Firmware 0x0a 0x80))

-- sync.rs:118
unfoldable pub acquire : Port → ℕ → Call (Unit {0})
acquire port mask = pick (is_clear mask 0x40000000) (acquire_bits port (hw_of mask)) (acquire_times port (hw_of mask) 1000)

unfoldable pub release_rest : Port → ℕ → Res (Unit {0}) → Call (Unit {0})
release_rest port hw token =
    pick (eqb hw 0) (end token)
    (do
      release_bits port hw
      end token)

abbrev pub forget : Res Bool → Res (Unit {0})
forget (Ok _) = Ok tt
forget (Err e) = Err e

-- sync.rs:134
unfoldable pub release : Port → ℕ → Call (Unit {0})
release port mask =
    pick (is_clear mask 0x40000000) (release_rest port (hw_of mask) (Ok tt))
    (do
      given ← attempt (token port false)
      release_rest port (hw_of mask) (forget given))

-- sync.rs:186
abbrev pub locked : {X : Type 0} → Ending X → Port → ℕ → Talk X → Talk X
locked ending port mask body = held ending (acquire port mask) (release port mask) body
