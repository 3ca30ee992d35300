-- `bringup` and the Watch's `poll`: their names and arguments
use Rattle.std.specs.Prelude.{ℕ, ◌%◌, Bool, true, false, eqb, List, [], ◌∷◌, length, Option, Some, None}
use Rattle.hardware.specs.Talk.{pick}
use Rattle.text.specs.Same.{same}
use Rattle.answers.specs.declared.Internal.{Internal}
use Rattle.answers.specs.declared.Internal.TheVariants.{Ixfi, Kr}
use Rattle.arguments.specs.declared.Watch.{Watch}
use Rattle.operations.specs.declared.Operation.TheVariants.{Bringup, Poll}
use Rattle.trace.specs.Kinds.{Line, no_more, with_word, with_truth, with_status}

abbrev pub with_bringup : List ℕ → Line
with_bringup = with_truth λ veto. no_more (Bringup veto)

-- the internal link's place in the Rust: Ixfi 0, Kr 1
abbrev pub internal_at : Bool → Internal
internal_at false = Ixfi
internal_at true = Kr

abbrev pub watch : ℕ → Internal → Option ℕ → ℕ → Watch
watch phy internal forced reforced = record { phy = phy; internal = internal; forced = forced; reforced = reforced }

-- the minute, where there is one, and the windows behind it, two words each
unfoldable pub at_minute : Watch → List ℕ → Line
at_minute w [] = Some (Poll w None, 0)
at_minute w (minute ∷ ws) = pick (eqb (length ws % 2) 0) (Some (Poll w (Some minute), length ws)) None

abbrev pub with_poll : List ℕ → Line
with_poll =
    with_word λ phy. with_truth λ kr. with_status λ forced. with_word λ reforced. at_minute (watch phy (internal_at kr) forced reforced)

-- `bringup`, `poll`
unfoldable pub setup_name : List ℕ → List ℕ → Line
setup_name w vs =
    pick (same w (98 ∷ 114 ∷ 105 ∷ 110 ∷ 103 ∷ 117 ∷ 112 ∷ [])) (with_bringup vs)
    (pick (same w (112 ∷ 111 ∷ 108 ∷ 108 ∷ [])) (with_poll vs)
    None)
