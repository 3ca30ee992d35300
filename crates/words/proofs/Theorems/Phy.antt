-- mdio.rs `probe` makes the document's identifier
use Rattle.std.proofs.Common.{◌≡◌, ℕ, ◌*◌, ◌/◌, ◌%◌, ◌^◌, sym, ap, ◌∙◌, arith}
use lib.Bits.{bit_and, bit_or, and_high, or_comm}
use Rattle.words.specs.Shift.{shl}
use Rattle.words.specs.Phy.{identifier}
use Rattle.words.proofs.Bits.{or_apart}

pub identifier_rust : (high low : ℕ) → identifier high low ≡ bit_or (shl high 16) (bit_and low 0xfff0)
unfolding identifier
identifier_rust high low =
    sym
    (ap (bit_or (shl high 16)) (and_high low 12 4) ∙ or_comm (shl high 16) (low / 2 ^ 4 % 2 ^ 12 * 2 ^ 4)
    ∙ or_apart 16 (low / 2 ^ 4 % 2 ^ 12 * 2 ^ 4) (shl high 16) (omega arith) (omega arith) ∙ omega arith)
