-- The token's command: its words, and what is made of what it gave
use Rattle.std.specs.Prelude.{ℕ, ◌%◌, Bool, List, [], ◌∷◌, Ok, Err}
use Rattle.std.specs.Int.Bits.{bit_or}
use Rattle.hardware.specs.Talk.{Call, Res, end, pick, ◌>>=◌}
use Rattle.reference.specs.Hostif.{header, token_status}

-- the Rust's block, by the lan alone
abbrev pub token_words : ℕ → Bool → List ℕ
token_words lan take = header 0x0a 2 ∷ pick take lan (bit_or lan 0x100) ∷ []

-- what a command gave, with its status as a byte: it is one (proofs/Bytes.antt), and of any other word the lowest byte is
abbrev pub status_of : Res ℕ → Res ℕ
status_of (Ok status) = Ok (status % 256)
status_of (Err e) = Err e

-- once its command has ended
abbrev pub token_got : Bool → Res ℕ → Call Bool
token_got take got = end (status_of got) >>= token_status take
