-- The operation line: a name, then argument words
use Rattle.std.specs.Prelude.{ℕ, ◌-◌, leb, List, [], ◌∷◌, length, take, Option, Some, None}
use Rattle.hardware.specs.Talk.{pick}
use Rattle.text.specs.Same.{same}
use Rattle.arguments.specs.declared.Asked.{Asked}
use Rattle.operations.specs.declared.Operation.{Operation}
use Rattle.operations.specs.declared.Operation.TheVariants.{Veto, Link, Acquire, Release, Command, Token, PhyActivity, MdioList}
use Rattle.trace.specs.Arguments.{numbers, all_numbers}
use Rattle.trace.specs.Kinds.{Line, no_more, with_word, with_half, with_truth}
use Rattle.trace.specs.Mdio.{mdio_name}
use Rattle.trace.specs.declared.operation.OperationLine.{OperationLine}

-- all words are the host block's
abbrev pub with_block : Operation → List ℕ → Line
with_block what vs = Some (what, length vs)

abbrev pub asked : ℕ → ℕ → ℕ → ℕ → ℕ → Asked
asked activity d0 d1 d2 d3 = record { activity = activity; «data» = record { w0 = d0; w1 = d1; w2 = d2; w3 = d3 } }

abbrev pub with_activity : List ℕ → Line
with_activity =
    with_half λ activity. with_word λ d0. with_word λ d1. with_word λ d2. with_word λ d3. no_more (PhyActivity (asked activity d0 d1 d2 d3))

-- `command`, `token`, `phy_activity`, or one of mdio.rs
unfoldable pub hostif_name : List ℕ → List ℕ → Line
hostif_name w vs =
    pick (same w (99 ∷ 111 ∷ 109 ∷ 109 ∷ 97 ∷ 110 ∷ 100 ∷ [])) (with_block Command vs)
    (pick (same w (116 ∷ 111 ∷ 107 ∷ 101 ∷ 110 ∷ [])) (with_truth (λ take. no_more (Token take)) vs)
    (pick (same w (112 ∷ 104 ∷ 121 ∷ 95 ∷ 97 ∷ 99 ∷ 116 ∷ 105 ∷ 118 ∷ 105 ∷ 116 ∷ 121 ∷ [])) (with_activity vs)
    (mdio_name w vs)))

-- `veto`, `link`, `acquire`, `release`, or one of the above
unfoldable pub by_name : List ℕ → List ℕ → Line
by_name w vs =
    pick (same w (118 ∷ 101 ∷ 116 ∷ 111 ∷ [])) (no_more Veto vs)
    (pick (same w (108 ∷ 105 ∷ 110 ∷ 107 ∷ [])) (no_more Link vs)
    (pick (same w (97 ∷ 99 ∷ 113 ∷ 117 ∷ 105 ∷ 114 ∷ 101 ∷ [])) (with_word (λ mask. no_more (Acquire mask)) vs)
    (pick (same w (114 ∷ 101 ∷ 108 ∷ 101 ∷ 97 ∷ 115 ∷ 101 ∷ [])) (with_word (λ mask. no_more (Release mask)) vs)
    (hostif_name w vs))))

-- how many of the arguments are looked at: all, since no line that fits the input buffer has more than 7282
abbrev pub looked_at : ℕ → ℕ
looked_at n = pick (leb n 7282) n 7282

-- the words that are lent stand at the end of those n
abbrev pub placed : ℕ → Line → Option OperationLine
placed n None = None
placed n (Some (what, words)) = Some (record { what = what; from = n - words; words = words })

abbrev pub named_of : List ℕ → List ℕ → ℕ → Option OperationLine
named_of w vs n = placed n (by_name w (take n vs))

-- a name, then numbers alone
abbrev pub operation_of : List (List ℕ) → Option OperationLine
operation_of [] = None
operation_of (w ∷ ws) = pick (all_numbers ws) (named_of w (numbers ws) (looked_at (length ws))) None
