-- The words with which a conversation begins
use Rattle.std.specs.Prelude.{ℕ, List, [], ◌∷◌, ◌++◌, length, take, drop, replicate}
use Rattle.std.proofs.lemmas.List.Edits.{sets}
use Rattle.jobs.specs.List.{pair_word}
use Rattle.operations.specs.declared.Operation.{Operation}
use Rattle.operations.specs.declared.Operation.TheVariants as operationv

-- a host block's words, over 80 zeros
abbrev pub padded : List ℕ → List ℕ
padded ws = ws ++ drop (length ws) (replicate 80 0)

-- pairs of device and register as they are lent, one word each
abbrev pub pair_words : List ℕ → List ℕ
pair_words [] = []
pair_words (device ∷ []) = []
pair_words (device ∷ register ∷ rest) = pair_word device register ∷ pair_words rest

-- a list has its pairs behind the 16 words of the host block
unfoldable pub first_words : Operation → ℕ → List ℕ → List ℕ
first_words (operationv.MdioList phy) words ws = sets (replicate 80 0) 16 (pair_words ws)
first_words what words ws = padded (take words ws)
