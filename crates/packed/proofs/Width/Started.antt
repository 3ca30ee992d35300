-- How many words each state of started is
use mathlib.Core.Path.{◌≡◌}
use lib.ListN.{length, length-append}
use Rattle.answers.specs.declared.Value.{Value}
use Rattle.hardware.specs.declared.Action.{Action}
use Rattle.hardware.specs.declared.Step.TheVariants as stepv
use Rattle.hardware.specs.declared.Step.{Step}
use Rattle.jobs.specs.declared.job.Ended.{Ended}
use Rattle.started.specs.declared.operation.Op.{Op}
use Rattle.started.specs.declared.standing.Standing.TheVariants as standingv
use Rattle.started.specs.declared.standing.Standing.{Standing}
use Rattle.packed.specs.Started.{words_place, words_standing}
use Rattle.packed.proofs.Width.Access.{access_place_length, hold_for_length}
use Rattle.packed.proofs.Width.After.{after_length}
use Rattle.packed.proofs.Width.Answers.{value_or_error_length}
use Rattle.packed.proofs.Width.Hardware.{action_length, word_or_error_length}
use Rattle.packed.proofs.Width.Long.{long_place_length}

pub place_length : (s : Step Action Op (Ended Value)) → length (words_place s) ≡ 59
unfolding words_place
place_length (stepv.Done x0) = simp (length-append, value_or_error_length)
place_length (stepv.Ask x0 x1) = simp (length-append, action_length, hold_for_length, access_place_length, after_length)

pub standing_length : (s : Standing) → length (words_standing s) ≡ 60
unfolding words_standing
standing_length (standingv.Kept x0) = simp place_length
standing_length (standingv.Lent x0 x1 x2) = simp (length-append, action_length, long_place_length)
standing_length (standingv.LentDone x0 x1) = simp (length-append, word_or_error_length)
