-- The operations of x552.rs and x553.rs: their names and arguments
use Rattle.std.specs.Prelude.{ℕ, List, [], ◌∷◌}
use Rattle.hardware.specs.Talk.{pick}
use Rattle.text.specs.Same.{same}
use Rattle.arguments.specs.declared.Change.{Change}
use Rattle.operations.specs.declared.Operation.TheVariants.{KrRead, KrWrite, KrModify, RestartAn, KrAutoneg, NvmWord, AfterReset}
use Rattle.trace.specs.Kinds.{Line, no_more, with_word, with_half, with_truth}
use Rattle.trace.specs.Setups.{setup_name}

abbrev pub with_kr_read : List ℕ → Line
with_kr_read = with_word λ address. no_more (KrRead address)

abbrev pub with_kr_write : List ℕ → Line
with_kr_write = with_word λ address. with_word λ value. no_more (KrWrite address value)

abbrev pub change : ℕ → ℕ → ℕ → Change
change port0 keep set = record { port0 = port0; keep = keep; set = set }

-- the bits to keep, then those to set
abbrev pub with_kr_modify : List ℕ → Line
with_kr_modify = with_word λ port0. with_word λ keep. with_word λ set. no_more (KrModify (change port0 keep set))

abbrev pub with_kr_autoneg : List ℕ → Line
with_kr_autoneg = with_truth λ kr. with_truth λ kx. no_more (KrAutoneg kr kx)

abbrev pub with_nvm_word : List ℕ → Line
with_nvm_word = with_half λ word. no_more (NvmWord word)

-- `nvm_word`, `after_reset`, or one of bringup and poll
unfoldable pub rest_name : List ℕ → List ℕ → Line
rest_name w vs =
    pick (same w (110 ∷ 118 ∷ 109 ∷ 95 ∷ 119 ∷ 111 ∷ 114 ∷ 100 ∷ [])) (with_nvm_word vs)
    (pick (same w (97 ∷ 102 ∷ 116 ∷ 101 ∷ 114 ∷ 95 ∷ 114 ∷ 101 ∷ 115 ∷ 101 ∷ 116 ∷ [])) (no_more AfterReset vs)
    (setup_name w vs))

-- `kr_read`, `kr_write`, `kr_modify`, `restart_an`, `kr_autoneg`, or one of the above
unfoldable pub kr_name : List ℕ → List ℕ → Line
kr_name w vs =
    pick (same w (107 ∷ 114 ∷ 95 ∷ 114 ∷ 101 ∷ 97 ∷ 100 ∷ [])) (with_kr_read vs)
    (pick (same w (107 ∷ 114 ∷ 95 ∷ 119 ∷ 114 ∷ 105 ∷ 116 ∷ 101 ∷ [])) (with_kr_write vs)
    (pick (same w (107 ∷ 114 ∷ 95 ∷ 109 ∷ 111 ∷ 100 ∷ 105 ∷ 102 ∷ 121 ∷ [])) (with_kr_modify vs)
    (pick (same w (114 ∷ 101 ∷ 115 ∷ 116 ∷ 97 ∷ 114 ∷ 116 ∷ 95 ∷ 97 ∷ 110 ∷ [])) (no_more RestartAn vs)
    (pick (same w (107 ∷ 114 ∷ 95 ∷ 97 ∷ 117 ∷ 116 ∷ 111 ∷ 110 ∷ 101 ∷ 103 ∷ [])) (with_kr_autoneg vs)
    (rest_name w vs)))))
