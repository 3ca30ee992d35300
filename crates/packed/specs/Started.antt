-- The words of started's states: a kind from 1 on, its numbers, its parts, and zeros up to the type's width
use Rattle.std.specs.Prelude.{ℕ, ◌%◌, ◌/◌, List, ◌∷◌, ◌++◌, eqb, drop, replicate}
use Rattle.hardware.specs.Talk.{pick}
use Rattle.packed.specs.Tape.{word_at, is, flag_of, joined}
use Rattle.answers.specs.declared.Value.{Value}
use Rattle.hardware.specs.declared.Action.{Action}
use Rattle.hardware.specs.declared.Step.TheVariants as stepv
use Rattle.hardware.specs.declared.Step.{Step}
use Rattle.jobs.specs.declared.job.Ended.{Ended}
use Rattle.packed.specs.Access.{get_access_place, get_hold_for, words_access_place, words_hold_for}
use Rattle.packed.specs.After.{get_after, words_after}
use Rattle.packed.specs.Answers.{get_value, words_value}
use Rattle.packed.specs.Hardware.{get_action, get_error, words_action, words_error}
use Rattle.packed.specs.Long.{get_long_place, words_long_place}
use Rattle.packed.specs.Packed.{get_result, get_word, words_result, words_word}
use Rattle.started.specs.declared.operation.Op.{Op}
use Rattle.started.specs.declared.standing.Standing.TheVariants as standingv
use Rattle.started.specs.declared.standing.Standing.{Standing}

-- 59 words
unfoldable pub words_place : Step Action Op (Ended Value) → List ℕ
words_place (stepv.Done ended) = 1 ∷ (ended.words % 4294967296) ∷ (ended.words / 4294967296) ∷ (words_result 13 5 words_value words_error ended.answer) ++ (replicate 42 0)
words_place (stepv.Ask action op) = 2 ∷ op.access.under.frame.regs.swsm ∷ op.access.under.frame.regs.sync ∷ op.access.under.frame.lan ∷ op.access.under.frame.mask ∷ (flag_of op.access.under.frame.mux) ∷ (words_action action) ++ ((words_hold_for op.access.under.hold) ++ ((words_access_place op.access.place) ++ (words_after op.after)))

unfoldable pub get_place : List ℕ → Step Action Op (Ended Value)
get_place s =
    pick (eqb (word_at s 0) 1) (stepv.Done (record { answer = (get_result get_value get_error (drop 3 s)); words = (joined (word_at s 1) (word_at s 2)) })) (
    stepv.Ask (get_action (drop 6 s)) (record { access = (record { under = (record { frame = (record { regs = (record { swsm = (word_at s 1); sync = (word_at s 2) }); lan = (word_at s 3); mask = (word_at s 4); mux = (is (word_at s 5)) }); hold = (get_hold_for (drop 9 s)) }); place = (get_access_place (drop 8 (drop 9 s))) }); after = (get_after (drop 22 (drop 8 (drop 9 s)))) }))

-- 60 words
unfoldable pub words_standing : Standing → List ℕ
words_standing (standingv.Kept place) = 1 ∷ words_place place
words_standing (standingv.Lent x action z) = 2 ∷ x ∷ z.frame.regs.swsm ∷ z.frame.regs.sync ∷ z.frame.lan ∷ z.frame.mask ∷ (flag_of z.frame.mux) ∷ (words_action action) ++ ((words_long_place z.place) ++ (replicate 32 0))
words_standing (standingv.LentDone x word_or_error) = 3 ∷ x ∷ (words_result 1 5 words_word words_error word_or_error) ++ (replicate 52 0)

unfoldable pub get_standing : List ℕ → Standing
get_standing s =
    pick (eqb (word_at s 0) 1) (standingv.Kept (get_place (drop 1 s))) (
    pick (eqb (word_at s 0) 2) (standingv.Lent (word_at s 1) (get_action (drop 7 s)) (record { frame = (record { regs = (record { swsm = (word_at s 2); sync = (word_at s 3) }); lan = (word_at s 4); mask = (word_at s 5); mux = (is (word_at s 6)) }); place = (get_long_place (drop 10 s)) })) (
    standingv.LentDone (word_at s 1) (get_result get_word get_error (drop 2 s))))
