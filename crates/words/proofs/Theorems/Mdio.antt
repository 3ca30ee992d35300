-- A command made and taken apart loses nothing, and mdio.rs makes the document's commands
use Rattle.std.proofs.Common.{◌≡◌, ℕ, ◌+◌, ◌*◌, ◌/◌, ◌%◌, ◌^◌, ◌<◌, Bool, true, false, eqb, sym, refl, ap, ◌∙◌, mod-eq_of_lt, div-add-mod', arith}
use native.Mathlib.Nat.{mod-mod}
use lib.Arith.{digits_mod}
use lib.Bits.{bit_or}
use Rattle.hardware.specs.Bits.{bit}
use Rattle.hardware.specs.Talk.{pick}
use Rattle.words.specs.Shift.{shl}
use Rattle.words.specs.declared.msca.Command.{Command}
use Rattle.words.specs.Mdio.{command, fields, Within, address, address_cycle, read_cycle, write_cycle, cycle, OP-READ, OP-WRITE, COMMAND}
use Rattle.words.proofs.Bits.{bit_digit, bit_adds, digit_clear, or_apart, field, behind}

flag : Bool → ℕ
flag b = pick b 1 0

flag_30 : (b : Bool) → pick b (2 ^ 30) 0 ≡ flag b * 2 ^ 30
unfolding flag
flag_30 true = refl
flag_30 false = refl

flag_small : (b : Bool) → flag b < 2
unfolding flag
flag_small true = omega arith
flag_small false = omega arith

flag_back : (b : Bool) → eqb (flag b) 1 ≡ b
unfolding flag
flag_back true = refl
flag_back false = refl

-- fields within their widths are not cut
whole : (c : Command) → Within c
    → command c ≡ c.register + c.device * 2 ^ 16 + c.phy * 2 ^ 21 + c.operation * 2 ^ 26 + flag c.go * 2 ^ 30
unfolding command
whole c h = simp (mod-eq_of_lt h.device, mod-eq_of_lt h.phy, mod-eq_of_lt h.operation, flag_30)

pub apart_made : (c : Command) → Within c → fields (command c) ≡ c
unfolding fields
apart_made c h = λ i. record { register = reg i; device = dev i; phy = phy i; operation = op i; go = go i }
  where
    low : ℕ
    low = c.register + c.device * 2 ^ 16

    e : command c ≡ c.register + c.device * 2 ^ 16 + c.phy * 2 ^ 21 + c.operation * 2 ^ 26 + flag c.go * 2 ^ 30
    e = whole c h

    reg : command c % 2 ^ 16 ≡ c.register
    reg = ap (λ w. w % 2 ^ 16) (let s : command c ≡ (c.device + c.phy * 2 ^ 5 + c.operation * 2 ^ 10 + flag c.go * 2 ^ 14) * 2 ^ 16 + c.register = omega (arith, e) in s)
        ∙ digits_mod (c.device + c.phy * 2 ^ 5 + c.operation * 2 ^ 10 + flag c.go * 2 ^ 14) h.register

    dev : command c / 2 ^ 16 % 32 ≡ c.device
    dev = field 16 5 (command c) c.register c.device (c.phy + c.operation * 2 ^ 5 + flag c.go * 2 ^ 9) h.register h.device (omega (arith, e))

    phy : command c / 2 ^ 21 % 32 ≡ c.phy
    phy = field 21 5 (command c) low c.phy (c.operation + flag c.go * 2 ^ 4) (omega (arith, h)) h.phy (omega (arith, e))

    op : command c / 2 ^ 26 % 4 ≡ c.operation
    op = field 26 2 (command c) (low + c.phy * 2 ^ 21) c.operation (flag c.go * 2 ^ 2) (omega (arith, h)) h.operation (omega (arith, e))

    go : bit 30 (command c) ≡ c.go
    go =
        bit_digit 30 (command c)
        ∙ ap (λ d. eqb d 1) (field 30 1 (command c) (low + c.phy * 2 ^ 21 + c.operation * 2 ^ 26) (flag c.go) 0 (omega (arith, h)) (flag_small c.go) (omega (arith, e)))
        ∙ flag_back c.go

joined : (word q16 q21 q26 q28 q29 q30 q31 r d p o g : ℕ) → word ≡ q16 * 2 ^ 16 + r → q16 ≡ q21 * 2 ^ 5 + d → q21 ≡ q26 * 2 ^ 5 + p
    → q26 ≡ q28 * 2 ^ 2 + o → q28 ≡ q29 * 2 → q29 ≡ q30 * 2 → q30 ≡ q31 * 2 + g → q31 ≡ 0
    → r + d * 2 ^ 16 + p * 2 ^ 21 + o * 2 ^ 26 + g * 2 ^ 30 ≡ word
joined word q16 q21 q26 q28 q29 q30 q31 r d p o g h0 h1 h2 h3 h4 h5 h6 h7 = omega arith

pub made_apart : (word : ℕ) → word < 2 ^ 32 → bit 28 word ≡ false → bit 29 word ≡ false → bit 31 word ≡ false → command (fields word) ≡ word
unfolding fields command
made_apart word h h28 h29 h31 =
    simp (mod-mod, bit_adds)
    (joined word (word / 2 ^ 16) (word / 2 ^ 21) (word / 2 ^ 26) (word / 2 ^ 28) (word / 2 ^ 29) (word / 2 ^ 30) (word / 2 ^ 31)
    (word % 2 ^ 16) (word / 2 ^ 16 % 32) (word / 2 ^ 21 % 32) (word / 2 ^ 26 % 4) (word / 2 ^ 30 % 2)
    (sym (div-add-mod' word (2 ^ 16))) (behind 16 5 word) (behind 21 5 word) (behind 26 2 word)
    (clear_at 28 h28) (clear_at 29 h29) (behind 30 1 word) (omega (arith, digit_clear 31 word h31)))
  where
    clear_at : (i : ℕ) → bit i word ≡ false → word / 2 ^ i ≡ word / 2 ^ (i + 1) * 2
    clear_at i z = omega (arith, behind i 1 word, digit_clear i word z)

module _ (phy dev reg : ℕ) (p : phy < 32) (d : dev < 32) (r : reg < 2 ^ 16) where
  -- what stands below the operation
  below : ℕ
  below = reg + dev * 2 ^ 16 + phy * 2 ^ 21

  sum : address phy dev reg ≡ below
  unfolding address below
  sum =
      ap (λ x. bit_or x (shl phy 21)) (or_apart 16 reg (shl dev 16) r (omega arith))
      ∙ or_apart 21 (reg + shl dev 16) (shl phy 21) (omega arith) (omega arith) ∙ omega arith

  pub address_document : address phy dev reg ≡ cycle 0 phy dev reg false
  unfolding command below
  address_document = sum ∙ omega arith

  pub operation_document : (o : ℕ) → o < 4 → bit_or (address phy dev reg) (shl o 26) ≡ cycle o phy dev reg false
  unfolding command below
  operation_document o h =
      ap (λ x. bit_or x (shl o 26)) sum ∙ or_apart 26 below (shl o 26) (omega arith) (omega arith) ∙ omega arith

  pub read_document : bit_or (address phy dev reg) OP-READ ≡ cycle 3 phy dev reg false
  read_document = operation_document 3 (omega arith)

  pub write_document : bit_or (address phy dev reg) OP-WRITE ≡ cycle 1 phy dev reg false
  write_document = operation_document 1 (omega arith)

-- `command | COMMAND` of any cycle sets go and nothing else
pub go_document : (o phy dev reg : ℕ) → reg < 2 ^ 16 → bit_or (cycle o phy dev reg false) COMMAND ≡ cycle o phy dev reg true
unfolding command
go_document o phy dev reg r = or_apart 30 (cycle o phy dev reg false) COMMAND (omega arith) (omega arith) ∙ omega arith

module _ (phy dev reg : ℕ) (p : phy < 32) (d : dev < 32) (r : reg < 2 ^ 16) where
  pub address_cycle_document : address_cycle phy dev reg ≡ cycle 0 phy dev reg true
  unfolding address_cycle
  address_cycle_document = ap (λ w. bit_or w COMMAND) (address_document phy dev reg p d r) ∙ go_document 0 phy dev reg r

  pub read_cycle_document : read_cycle phy dev reg ≡ cycle 3 phy dev reg true
  unfolding read_cycle
  read_cycle_document = ap (λ w. bit_or w COMMAND) (read_document phy dev reg p d r) ∙ go_document 3 phy dev reg r

  pub write_cycle_document : write_cycle phy dev reg ≡ cycle 1 phy dev reg true
  unfolding write_cycle
  write_cycle_document = ap (λ w. bit_or w COMMAND) (write_document phy dev reg p d r) ∙ go_document 1 phy dev reg r

-- a command's word by shifts and `|`, its go bit aside
abbrev pub shifted : Command → ℕ
shifted c = bit_or (address (c.phy % 32) (c.device % 32) c.register) (shl (c.operation % 4) 26)

module _ (c : Command) (h : c.register < 2 ^ 16) where
  without_go : shifted c ≡ cycle c.operation c.phy c.device c.register false
  unfolding command
  without_go =
      operation_document (c.phy % 32) (c.device % 32) c.register (omega arith) (omega arith) h (c.operation % 4) (omega arith)
      ∙ simp mod-mod

  pub command_going : c.go ≡ true → command c ≡ bit_or (shifted c) COMMAND
  command_going e =
      ap (cycle c.operation c.phy c.device c.register) e
      ∙ sym (ap (λ w. bit_or w COMMAND) without_go ∙ go_document c.operation c.phy c.device c.register h)

  pub command_not_going : c.go ≡ false → command c ≡ shifted c
  command_not_going e = ap (cycle c.operation c.phy c.device c.register) e ∙ sym without_go
