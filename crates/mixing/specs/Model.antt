-- Document 01's model for demand 3: the chip that two ports and the firmware share
use Rattle.hardware.specs.Talk.{pick, Reply}
use Rattle.std.specs.Prelude.{ℕ, ◌-◌, ◌^◌, Bool, true, false, not, ◌&&◌, eqb, leb, Ok}
use Rattle.std.specs.Int.Bits.{bit_and, bit_or}
use Rattle.hardware.specs.Bits.{bit, without}
use Rattle.hardware.specs.Regs.{regs}
use Rattle.hardware.specs.declared.Action.{Action}
use Rattle.hardware.specs.declared.Action.TheVariants as action
use Rattle.hardware.specs.declared.Family.{Family}

-- the ports of a chip
pub data Side : Type 0 where
  lan0 lan1 : Side

-- who turned a bit to 1
pub data Owner : Type 0 where
  nobody firmware : Owner
  of_port : Side → Owner

-- a semaphore word, and the owner of each of its bits
pub record Word : Type 0 where
  pub value : ℕ
  pub owner : ℕ → Owner

-- the owner of a bit: who changes the word, the bit before, the bit after, and its owner before
abbrev pub owned_by : Owner → Bool → Bool → Owner → Owner
owned_by q old false o = nobody
owned_by q false true o = q
owned_by q true true o = o

-- q changes the word to v
abbrev pub becomes : Owner → ℕ → Word → Word
becomes q v w = record { value = v; owner = λ i. owned_by q (bit i w.value) (bit i v) (w.owner i) }

-- the firmware's bits: 4, the flash bit, 5 to 8, 13 and 14, as in the datasheets' table (proofs/Pairs.antt)
abbrev pub fw_bits : ℕ
fw_bits = 0x61f0

-- `old` in the bits of a mask, `new` in all others
abbrev pub keeps : (mask old new : ℕ) → ℕ
keeps mask old new = bit_or (bit_and old mask) (new - bit_and new mask)

-- `new`, but a 1 in bit b leaves that bit as it stands
abbrev pub one_leaves : (b old new : ℕ) → ℕ
one_leaves b old new = pick (bit b new) (keeps (2 ^ b) old new) new

-- What a port's write of `new` stores where `old` stands. To SW_FW_SYNC: it changes neither the flash bit nor the firmware's
-- bits, and a 1 in bit 31 leaves that bit as it stands
abbrev pub stored_sync : (old new : ℕ) → ℕ
stored_sync old new = keeps fw_bits old (one_leaves 31 old new)

-- to SWSM: a 1 in bit 0 leaves that bit as it stands
abbrev pub stored_swsm : (old new : ℕ) → ℕ
stored_swsm old new = one_leaves 0 old new

-- a port's write of a word, by what it stores
abbrev pub written : (ℕ → ℕ → ℕ) → Side → ℕ → Word → Word
written stored p v w = becomes (of_port p) (stored w.value v) w

-- a read gives the word, then sets bit b
abbrev pub taken : Owner → ℕ → Word → Word
taken q b w = pick (bit b w.value) w (becomes q (bit_or w.value (2 ^ b)) w)

pub record Chip : Type 0 where
  pub swsm : Word
  pub sync : Word
  -- the KR address that CTRL selects
  pub selected : ℕ
  pub kr : ℕ → ℕ

abbrev pub with_swsm : Word → Chip → Chip
with_swsm w c = record { swsm = w; sync = c.sync; selected = c.selected; kr = c.kr }

abbrev pub with_sync : Word → Chip → Chip
with_sync w c = record { swsm = c.swsm; sync = w; selected = c.selected; kr = c.kr }

abbrev pub with_selected : ℕ → Chip → Chip
with_selected a c = record { swsm = c.swsm; sync = c.sync; selected = a; kr = c.kr }

abbrev pub with_kr : (ℕ → ℕ) → Chip → Chip
with_kr t c = record { swsm = c.swsm; sync = c.sync; selected = c.selected; kr = t }

-- a word at an address
abbrev pub put : ℕ → ℕ → (ℕ → ℕ) → ℕ → ℕ
put a w t b = pick (eqb a b) w (t b)

-- the registers that the model is about
pub data Kind : Type 0 where
  is_swsm is_sync is_ctrl is_data is_other : Kind

abbrev pub kind : Family → ℕ → Kind
kind f r =
    pick (eqb r (regs f).swsm) is_swsm
    (pick (eqb r (regs f).sync) is_sync
    (pick (eqb r 0x11144) is_ctrl
    (pick (eqb r 0x11148) is_data
    is_other)))

-- an action on registers of some kinds alone, or a wait
abbrev pub On : (Kind → Type 0) → Family → Action → Type 0
On K f (action.Read r) = K (kind f r)
On K f (action.Write r v) = K (kind f r)
On K f (action.Wait n) = Unit {0}

-- what is at will: CTRL's busy bit, and what any other register answers; and what a step after the end is handed
pub record World : Type 0 where
  pub busy : Bool
  pub reply : Reply
  pub kind : ℕ
  pub value : ℕ

-- CTRL: the address, busy at will, response 0. Busy (bit 31) and response (bits 18 and 19) are fields of their own, also
-- where an address is so large that it has bits there
abbrev pub ctrl_word : ℕ → Bool → ℕ
ctrl_word address busy = bit_or (without address 0x800c0000) (pick busy 0x80000000 0)

-- an action: its reply, and the chip then
pub record Did : Type 0 where
  pub reply : Reply
  pub chip : Chip

abbrev pub did : ℕ → Chip → Did
did v c = record { reply = Ok v; chip = c }

abbrev pub do_read : Side → World → Chip → Kind → Did
do_read p w c is_swsm = did c.swsm.value (with_swsm (taken (of_port p) 0 c.swsm) c)
do_read p w c is_sync = did c.sync.value (with_sync (taken (of_port p) 31 c.sync) c)
do_read p w c is_ctrl = did (ctrl_word c.selected w.busy) c
do_read p w c is_data = did (c.kr c.selected) c
do_read p w c is_other = record { reply = w.reply; chip = c }

abbrev pub do_write : Side → World → Chip → ℕ → Kind → Did
do_write p w c v is_swsm = did 0 (with_swsm (written stored_swsm p v c.swsm) c)
do_write p w c v is_sync = did 0 (with_sync (written stored_sync p v c.sync) c)
do_write p w c v is_ctrl = did 0 (with_selected v c)
do_write p w c v is_data = did 0 (with_kr (put c.selected v c.kr) c)
do_write p w c v is_other = record { reply = w.reply; chip = c }

-- after a wait any reply is ignored
abbrev pub do_action : Family → Side → World → Chip → Action → Did
do_action f p w c (action.Read r) = do_read p w c (kind f r)
do_action f p w c (action.Write r v) = do_write p w c v (kind f r)
do_action f p w c (action.Wait n) = did 0 c

-- the software partner of one of the firmware's bits
abbrev pub partner : ℕ → ℕ
partner i = pick (eqb i 4) 0 (pick (leb i 8) (i - 5) (i - 2))

abbrev pub is_firmware : Owner → Bool
is_firmware nobody = false
is_firmware firmware = true
is_firmware (of_port p) = false

-- its steps: take bit 31, let it go, clear one of its bits, raise one
pub data Step : Type 0 where
  take let_go : Step
  lower raise : ℕ → Step

abbrev pub holds : Word → Bool
holds w = is_firmware (w.owner 31)

-- one that is not possible changes nothing
abbrev pub do_step : Step → Word → Word
do_step take w = taken firmware 31 w
do_step let_go w = pick (holds w) (becomes firmware (without w.value 0x80000000) w) w
do_step (lower i) w = pick (holds w && bit i fw_bits) (becomes firmware (without w.value (2 ^ i)) w) w
do_step (raise i) w =
    pick (holds w && bit i fw_bits && not (bit (partner i) w.value)) (becomes firmware (bit_or w.value (2 ^ i)) w) w

abbrev pub do_firmware : Step → Chip → Chip
do_firmware s c = with_sync (do_step s c.sync) c

-- a free chip: the firmware's bits of `bits`, any address selected, any KR registers
abbrev pub free : ℕ → ℕ → (ℕ → ℕ) → Chip
free bits address regs =
    record {
      swsm = record { value = 0; owner = λ _. nobody };
      sync = record { value = bit_and fw_bits bits; owner = λ _. nobody };
      selected = address;
      kr = regs;
    }
