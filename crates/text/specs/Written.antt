-- Writing bytes into a buffer at a place
use Rattle.std.specs.Prelude.{ℕ, ◌+◌, cond, List, leb, length, Option, Some, None}
use Rattle.std.proofs.lemmas.List.Edits.{sets}

-- the place behind the bytes and the buffer with them in it; where they do not fit, the buffer as it was
unfoldable pub written : List ℕ → ℕ → List ℕ → Option ℕ × List ℕ
written out at bytes =
    cond (leb (at + length bytes) (length out)) (Some (at + length bytes), sets out at bytes) (None, out)
