-- Words of the host interface: where they stand, byte order, and how long a reply may be
use Rattle.std.specs.Prelude.{ℕ, ◌+◌, ◌*◌, ◌/◌, ◌%◌, ◌^◌, Bool, nat_le}

-- the register of the host block's word i; past 32 bits it wraps
abbrev pub flex_mng : ℕ → ℕ
flex_mng i = (0x15800 + 4 * i) % 2 ^ 32

-- byte i of a word, the lowest is byte 0
abbrev pub byte : ℕ → ℕ → ℕ
byte i word = word / 2 ^ (8 * i) % 256

-- the four bytes in the other order
unfoldable pub swap_bytes : ℕ → ℕ
swap_bytes word = byte 0 word * 2 ^ 24 + byte 1 word * 2 ^ 16 + byte 2 word * 2 ^ 8 + byte 3 word

-- an NVM word's byte address, big-endian
unfoldable pub nvm_address : ℕ → ℕ
nvm_address word = swap_bytes (2 * word)

-- a header of four bytes, then len bytes
unfoldable pub fits : ℕ → ℕ → Bool
fits len words = nat_le (len + 4) (4 * words)

-- the words that len bytes take
unfoldable pub reply_words : ℕ → ℕ
reply_words len = (len + 3) / 4
