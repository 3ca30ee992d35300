-- The Rust's `word << places` of a u32
use Rattle.std.specs.Prelude.{ℕ, ◌*◌, ◌%◌, ◌^◌}

abbrev pub shl : ℕ → ℕ → ℕ
shl word places = word * 2 ^ places % 2 ^ 32
